use Rattle.std.proofs.Common.{◌≡◌, length, take}
use Rattle.std.specs.List.{concat}
use Rattle.ga_group.specs.Plan.{groups_in}
use Rattle.ga_group.proofs.halves.nodes_in.Given as goal

-- the nodes of the groups before
abbrev pub invariant-loop-group : goal.invariant-loop-group
invariant-loop-group l = l.count ≡ length (concat (groups_in (take l.group-index l.groups)))
