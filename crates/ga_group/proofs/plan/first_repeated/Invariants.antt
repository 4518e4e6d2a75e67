use Rattle.std.proofs.Common.{◌≡◌, ◌++◌, take, drop}
use Rattle.std.specs.List.{AllByRecursion, concat}
use Rattle.ga_place.specs.Node.{IsNodeName}
use Rattle.ga_group.specs.Plan.{first_repeated, groups_in}
use Rattle.ga_group.proofs.plan.first_repeated.Given as goal

-- the first repeated node is among the nodes that are left, behind the others
abbrev pub invariant-loop-at : goal.invariant-loop-at
invariant-loop-at l =
    (first_repeated (concat (groups_in l.fn.before)) l.fn.group ≡ first_repeated
    (concat (groups_in l.fn.before) ++ take l.at l.fn.group) (drop l.at l.fn.group))
    × AllByRecursion IsNodeName (take l.at l.fn.group)
