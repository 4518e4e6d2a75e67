use Rattle.std.proofs.Common.{rules, ◌≡◌, ◌++◌, ◌⊎◌, ℕ, List, drop, inl, inr, map, subst, suc, take}
use Rattle.std.specs.List.{flat_map}
use Rattle.ga_frame.specs.Frame.{FrameView, IsFirstFault, frame_view}
use Rattle.ga_frame.specs.Feed.{FeedView, HasRead}
use Rattle.ga_frame.specs.declared.error.FrameError.{FrameError}
use Rattle.ga_frame.specs.declared.error.FrameError.TheVariants.{Counted}
use Rattle.ga_cut_streams.proofs.Pieces.{apart_at}
use Rattle.ga_cut_streams.proofs.frames.frames_in_pieces.Goals as goal

-- a fault behind the words that were read is the first one of all words
in_all : (words all : List ℕ) (fault : FrameError) → words ≡ all
    → (fault ≡ Counted) ⊎ IsFirstFault words fault → (fault ≡ Counted) ⊎ IsFirstFault all fault
in_all words all fault e = subst (λ l. (fault ≡ Counted) ⊎ IsFirstFault l fault) e

read : (fault : FrameError) (words piece more : List ℕ) (frames : List FrameView) (feed : FeedView)
    → HasRead words frames feed
    → (fault ≡ Counted) ⊎ ((before : List ℕ) (read : List FrameView) (behind : List ℕ)
    → HasRead before read feed → IsFirstFault (before ++ (piece ++ behind)) fault)
    → (fault ≡ Counted) ⊎ IsFirstFault (words ++ (piece ++ more)) fault
read fault words piece more frames feed r (inl counted) = inl counted
read fault words piece more frames feed r (inr first) = inr (first words frames more r)

pub returns-in_err-feed-clause-fault : goal.returns-in_err-feed-clause-fault
returns-in_err-feed-clause-fault c =
    let fault = in_all _ _ c.in_err-feed.field-0.0 (apart_at (λ piece. piece.now) c.args.pieces.now
    c.loop-piece.piece-index c.piece-item.result c.loop-piece-test.true c.piece-item.is)
    (read c.in_err-feed.field-0.0 (flat_map (λ piece. piece.now)
    (take c.loop-piece.piece-index c.args.pieces.now)) c.piece-item.result.now
    (flat_map (λ piece. piece.now) (drop (suc c.loop-piece.piece-index) c.args.pieces.now))
    (map frame_view c.loop-piece.frames.items) c.loop-piece.feed c.loop-piece.invariant
    c.in_err-feed.ensures.fault) in
    search (rules, fault)
