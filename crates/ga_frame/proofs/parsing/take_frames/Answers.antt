use Rattle.std.proofs.Common.{rules, ◌≡◌, ◌∙◌, ◌∷◌, ◌==◌, ◌<◌, [], arith, ap, false, length, map, subst, sym, true}
use Rattle.std.specs.Prelude.{IfSome}
use Rattle.std.proofs.lemmas.List.{map-append}
use Rattle.std.proofs.lemmas.Bool.Decides.{nat_tests}
use Rattle.ga_frame.specs.Frame.{MORE, frame_view}
use Rattle.ga_frame.specs.Feed.{HasRead}
use Rattle.ga_frame.specs.inner.Taking.{BeginsWith}
use Rattle.ga_frame.proofs.Taking.{ReadSoFar, has_ended, read_more, stands, stops_at, stops_behind}
use Rattle.ga_frame.proofs.parsing.take_frames.Goals as goal

pub returns-in_err-frame-clause-fault : goal.returns-in_err-frame-clause-fault
returns-in_err-frame-clause-fault c =
    let fault =
    stops_at c.args.words.now c.loop-frames.rest.now (map frame_view c.loop-frames.frames.items)
    c.args.at c.in_err-frame.field-0.0 c.loop-frames.invariant c.in_err-frame.ensures.fault in
    search (rules, fault)

pub loop-frames-preserved : goal.loop-frames-preserved
loop-frames-preserved c =
    let frame = frame_view c.in-Some.frame in
    let found : BeginsWith c.loop-frames.rest.now frame c.in-Some.behind.now = subst
    (λ o. IfSome o (λ first. BeginsWith c.loop-frames.rest.now (frame_view first.0) first.1.now))
    c.in-Some.is c.in_ok-frame.ensures.frame in
    let goes_on : (frame.completion == MORE) ≡ true =
    grind (arith, nat_tests, c.get-is_last.ensures.value, c.if-is_last.false) in
    subst (ReadSoFar c.args.words.now c.in-Some.behind.now)
    (sym (ap (map frame_view) c.in_ok-push.ensures.items
    ∙ map-append frame_view c.loop-frames.frames.items (c.in-Some.frame ∷ [])))
    (read_more c.args.words.now c.loop-frames.rest.now c.in-Some.behind.now
    (map frame_view c.loop-frames.frames.items) frame c.loop-frames.invariant found goes_on)

pub returns-then-is_empty-clause-frames : goal.returns-then-is_empty-clause-frames
returns-then-is_empty-clause-frames c =
    let frame = frame_view c.in-Some.frame in
    let found : BeginsWith c.loop-frames.rest.now frame c.in-Some.behind.now = subst
    (λ o. IfSome o (λ first. BeginsWith c.loop-frames.rest.now (frame_view first.0) first.1.now))
    c.in-Some.is c.in_ok-frame.ensures.frame in
    let ends : (frame.completion == MORE) ≡ false =
    grind (arith, nat_tests, c.get-is_last.ensures.value, c.if-is_last.true) in
    let none : length c.in-Some.behind.now ≡ 0 =
    grind (arith, nat_tests, c.is_empty.ensures, c.if-is_empty.true) in
    subst (λ frames. HasRead c.args.words.now frames (stands true c.args.words.now
    (length c.args.words.now))) (sym (ap (map frame_view) c.in_ok-push.ensures.items
    ∙ map-append frame_view c.loop-frames.frames.items (c.in-Some.frame ∷ [])))
    (has_ended c.args.words.now c.loop-frames.rest.now c.in-Some.behind.now
    (map frame_view c.loop-frames.frames.items) frame c.loop-frames.invariant found none ends)

pub returns-else-is_empty-clause-fault : goal.returns-else-is_empty-clause-fault
returns-else-is_empty-clause-fault c =
    let frame = frame_view c.in-Some.frame in
    let found : BeginsWith c.loop-frames.rest.now frame c.in-Some.behind.now = subst
    (λ o. IfSome o (λ first. BeginsWith c.loop-frames.rest.now (frame_view first.0) first.1.now))
    c.in-Some.is c.in_ok-frame.ensures.frame in
    let ends : (frame.completion == MORE) ≡ false =
    grind (arith, nat_tests, c.get-is_last.ensures.value, c.if-is_last.true) in
    let some : 0 < length c.in-Some.behind.now =
    grind (arith, nat_tests, c.is_empty.ensures, c.if-is_empty.false) in
    stops_behind c.args.words.now c.loop-frames.rest.now c.in-Some.behind.now (map frame_view
    c.loop-frames.frames.items) c.args.at frame c.loop-frames.invariant found ends some
