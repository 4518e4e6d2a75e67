use Rattle.std.proofs.Common.{◌∙◌, ℕ, [], ap, refl}
use Rattle.std.specs.Prelude.{Option}
use Rattle.ga_chip.specs.Run.{Try}
use Rattle.ga_observe.specs.Seen.{steps_in}
use Rattle.ga_observe.specs.declared.step.Step.{Step}
use Rattle.ga_trace.specs.Last.{last_by}
use Rattle.ga_trace.proofs.Stepping.{none_by, none_left, one_by, side_at}
use Rattle.ga_trace.proofs.stepped.one_step.Goals as goal

pub returns-in-Moved : goal.returns-in-Moved
returns-in-Moved c =
    let now = c.loop-side.chip in
    let index = c.loop-side.side-index in
    let seen = c.attempt.ensures.seen c.of-last.result [] (refl, refl) in
    let steps = steps_in 0 now (Try c.args.node (side_at index)) in
    one_by c.args.node index c.args.chip.now now c.attempt.new.chip c.attempt.result
    c.attempt.new.observer.step c.loop-side-test.true c.loop-side.invariant.same
    c.loop-side.invariant.left c.attempt.ensures.chip c.in-Moved.is
    (seen.1 ∙ ap (λ (node : ℕ). last_by node c.of-last.result.step steps) c.of-last.ensures.node
    ∙ ap (λ (found : Option Step). last_by c.args.node found steps) c.of-last.ensures.none)

pub loop-side-preserved : goal.loop-side-preserved
loop-side-preserved c =
    let (same, left) = none_by c.args.node c.loop-side.side-index c.args.chip.now c.loop-side.chip
    c.attempt.new.chip c.attempt.result c.loop-side-test.true c.loop-side.invariant.same
    c.loop-side.invariant.left c.attempt.ensures.chip c.in_default.not-Moved in
    record { same = same; left = left }

pub returns : goal.returns
returns c =
    none_left c.args.node c.loop-side.side-index c.args.chip.now c.loop-side.chip
    c.loop-side-test.false c.loop-side.auto.side-index-end c.loop-side.invariant.same
    c.loop-side.invariant.left
