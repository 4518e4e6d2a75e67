use Rattle.std.proofs.Common.{◌≡◌, take}
use Rattle.std.specs.List.{concat}
use Rattle.ga_group.specs.Plan.{groups_in}
use Rattle.ga_group.proofs.workers.nodes_of.Given as goal

abbrev pub invariant-loop-group : goal.invariant-loop-group
invariant-loop-group l = l.nodes.items ≡ concat (groups_in (take l.group-index l.groups))
