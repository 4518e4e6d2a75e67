use Rattle.std.proofs.Common.{◌≡◌, take, drop}
use Rattle.std.specs.List.{AllByRecursion, concat}
use Rattle.ga_place.specs.Node.{IsNodeName}
use Rattle.ga_group.specs.Plan.{groups_fault, groups_in, plan_fault}
use Rattle.ga_group.proofs.plan.fault_of.Given as goal

-- the fault is that of the groups that are left, behind the others
abbrev pub invariant-loop-worker : goal.invariant-loop-worker
invariant-loop-worker l =
    (plan_fault (groups_in l.groups) ≡ groups_fault l.worker
    (concat (groups_in (take l.worker l.groups))) (groups_in (drop l.worker l.groups)))
    × AllByRecursion IsNodeName (concat (groups_in (take l.worker l.groups)))
