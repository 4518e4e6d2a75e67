use Rattle.std.proofs.Common.{◌≡◌, ◌++◌, drop}
use Rattle.std.specs.List.{concat}
use Rattle.ga_place.specs.Node.{is_among}
use Rattle.ga_group.specs.Plan.{groups_in}
use Rattle.ga_group.proofs.plan.stands_in.Given as goal

-- it is in the groups that are left if it is in all
abbrev pub invariant-loop-group : goal.invariant-loop-group
invariant-loop-group l =
    is_among l.node (concat (groups_in l.fn.groups) ++ l.fn.front)
    ≡ is_among l.node (concat (groups_in (drop l.group-index l.fn.groups)) ++ l.fn.front)
