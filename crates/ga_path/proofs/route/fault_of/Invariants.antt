use Rattle.std.proofs.Common.{◌≡◌, ◌<◌, ◌≤◌, length, reverse, take, drop}
use Rattle.ga_path.specs.Route.{hops_fault, route_fault}
use Rattle.ga_path.proofs.route.fault_of.Given as goal

-- the fault is that of the nodes that are left, behind the others
abbrev pub invariant-loop-at : goal.invariant-loop-at
invariant-loop-at l =
    (0 < l.at) × (l.at ≤ length l.nodes) × (l.at-end ≡ length l.nodes)
    × (route_fault l.nodes ≡ hops_fault (reverse (take l.at l.nodes)) (drop l.at l.nodes))
