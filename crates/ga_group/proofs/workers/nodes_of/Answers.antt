use Rattle.std.proofs.Common.{◌∙◌, ap₂, sym, ◌++◌}
use Rattle.ga_group.proofs.Walk.{groups_done}
use Rattle.ga_group.proofs.workers.nodes_of.Goals as goal

pub loop-group-preserved : goal.loop-group-preserved
loop-group-preserved c =
    c.in_ok-extend_from_slice.ensures.items
    ∙ ap₂ (λ xs ys. xs ++ ys) c.loop-group.invariant c.deref.ensures.value
    ∙ sym (groups_done c.args.groups.now c.loop-group.group-index c.group-item.result
    c.loop-group-test.true c.group-item.is)
