use Rattle.std.proofs.Common.{◌∙◌, sym}
use Rattle.ga_waits.specs.Label.{images_in}
use Rattle.ga_debug.proofs.ValuesRead.{value_next}
use Rattle.ga_debug.proofs.command.values_of.Goals as goal

pub loop-index-preserved : goal.loop-index-preserved
loop-index-preserved c =
    value_next (images_in c.args.images) c.args.node c.args.what c.args.most c.loop-index.index
    c.loop-index.values c.loop-index.words c.next-in-loop-index.new.self c.in-Some.word.now
    c.in_ok-value.value _ c.loop-index-test.true c.in-Some.ensures.steps
    (sym c.value_in.ensures ∙ c.in_ok-value.was) c.loop-index.invariant
