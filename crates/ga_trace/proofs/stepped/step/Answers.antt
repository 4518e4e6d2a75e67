use Rattle.std.proofs.Common.{string_bytes, subst}
use Rattle.ga_waits.specs.Label.{images_in}
use Rattle.ga_trace.specs.inner.Stepped.{Tells}
use Rattle.ga_trace.proofs.Stepping.{step_next, step_over}
use Rattle.ga_trace.proofs.stepped.step.Goals as goal

pub returns-then-not-made : goal.returns-then-not-made
returns-then-not-made c =
    let text = string_bytes c.loop-done.text in
    let longer = string_bytes c.push_one_step.new.text in
    step_over (images_in c.args.images) c.args.node c.args.count c.loop-done.done c.loop-done.chip
    c.push_one_step.new.chip text longer _ c.loop-done-test.true
    (subst (Tells (images_in c.args.images) c.args.node c.loop-done.chip c.push_one_step.new.chip
    text longer) c.if-not-made.true c.in_ok-made.ensures) c.loop-done.invariant

pub loop-done-preserved : goal.loop-done-preserved
loop-done-preserved c =
    let text = string_bytes c.loop-done.text in
    let longer = string_bytes c.push_one_step.new.text in
    step_next (images_in c.args.images) c.args.node c.args.count c.loop-done.done c.loop-done.chip
    c.push_one_step.new.chip text longer _ c.loop-done-test.true
    (subst (Tells (images_in c.args.images) c.args.node c.loop-done.chip c.push_one_step.new.chip
    text longer) c.if-not-made.false c.in_ok-made.ensures) c.loop-done.invariant
