use Rattle.std.proofs.Common.{map, take}
use Rattle.std.specs.List.{flat_map}
use Rattle.ga_frame.specs.Frame.{frame_view}
use Rattle.ga_frame.specs.Feed.{HasRead}
use Rattle.ga_cut_streams.proofs.frames.frames_in_pieces.Given as goal

abbrev pub invariant-loop-piece : goal.invariant-loop-piece
invariant-loop-piece l =
    HasRead (flat_map (λ piece. piece.now) (take l.piece-index l.pieces))
    (map frame_view l.frames.items) l.feed
