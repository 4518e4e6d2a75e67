use Rattle.std.proofs.Common.{◌≡◌, ◌∙◌, ◌++◌, ◌<◌, ap, arith, drop, inr, length, map, subst, sym}
use Rattle.ga_frame.specs.Frame.{frame_view}
use Rattle.ga_frame.specs.Feed.{FeedView, HasRead}
use Rattle.ga_frame.specs.inner.Taking.{HasFaultBehind}
use Rattle.std.proofs.lemmas.Bool.Decides.{nat_tests}
use Rattle.ga_frame.proofs.Taking.{comes_late, fault_on, read_on}
use Rattle.ga_frame.proofs.feed.FrameFeed.feed.Goals as goal

pub returns-then-not-is_empty-clause-fault : goal.returns-then-not-is_empty-clause-fault
returns-then-not-is_empty-clause-fault c =
    let inside : FeedView = record
    { at = c.self.inside.at; begun = c.self.inside.begun.items; ended = c.self.inside.ended } in
    let some : 0 < length c.args.piece.now =
    grind (arith, nat_tests, c.is_empty.ensures, c.if-not-is_empty.true) in
    inr (λ words frames more r. inr (comes_late words c.args.piece.now more frames inside
    (subst (HasRead words frames) (sym c.self.view_is) r) c.if-self.true some))

pub returns-in-Ok-clause-frames : goal.returns-in-Ok-clause-frames
returns-in-Ok-clause-frames c =
    let inside : FeedView = record
    { at = c.self.inside.at; begun = c.self.inside.begun.items; ended = c.self.inside.ended } in
    let all : c.as_slice.result.now ≡ c.self.inside.begun.items ++ c.args.piece.now =
    c.as_slice.ensures.value ∙ c.in_ok-extend_from_slice.ensures.items in
    let more = map frame_view c.in-Ok.taken.frames.items in
    let left : drop c.in-Ok.taken.count (c.self.inside.begun.items ++ c.args.piece.now)
    ≡ c.drop_front.new.words.items = ap (drop c.in-Ok.taken.count)
    (sym c.in_ok-extend_from_slice.ensures.items) ∙ sym c.drop_front.ensures in
    λ words frames r.
    let next : HasRead (c.self.inside.begun.items ++ c.args.piece.now) more (record
    { at = c.in-Ok.taken.count; begun = c.drop_front.new.words.items; ended = c.in-Ok.taken.ended })
    =
    subst (λ l. HasRead (c.self.inside.begun.items ++ c.args.piece.now) more
    (record { at = c.in-Ok.taken.count; begun = l; ended = c.in-Ok.taken.ended })) left
    (subst (λ l. HasRead l more (record
    { at = c.in-Ok.taken.count; begun = drop c.in-Ok.taken.count l; ended = c.in-Ok.taken.ended }))
    all c.in-Ok.ensures.frames) in
    read_on words c.args.piece.now c.drop_front.new.words.items frames more inside
    c.in-Ok.taken.count c.in-Ok.taken.ended
    (subst (HasRead words frames) (sym c.self.view_is) r) c.if-self-2.false next

pub returns-in-Err-clause-fault : goal.returns-in-Err-clause-fault
returns-in-Err-clause-fault c =
    let inside : FeedView = record
    { at = c.self.inside.at; begun = c.self.inside.begun.items; ended = c.self.inside.ended } in
    let all : c.as_slice.result.now ≡ c.self.inside.begun.items ++ c.args.piece.now =
    c.as_slice.ensures.value ∙ c.in_ok-extend_from_slice.ensures.items in
    inr (λ words frames more r.
    fault_on words c.args.piece.now more frames inside c.in-Err.error
    (subst (HasRead words frames) (sym c.self.view_is) r) c.if-self-2.false
    (subst (λ l. HasFaultBehind c.self.inside.at l c.in-Err.error) all c.in-Err.ensures.fault))
