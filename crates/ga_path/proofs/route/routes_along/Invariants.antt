use Rattle.std.proofs.Common.{◌≡◌, drop, take}
use Rattle.ga_path.specs.Names.{lists_in}
use Rattle.ga_path.specs.Route.{routes_fault}
use Rattle.ga_path.proofs.route.routes_along.Given as goal

-- the routes so far, and the fault is that of the lists that are left
abbrev pub invariant-loop-nodes : goal.invariant-loop-nodes
invariant-loop-nodes l =
    (l.routes.items ≡ lists_in (take l.nodes-index l.lists))
    × (routes_fault (lists_in l.lists) ≡ routes_fault (lists_in (drop l.nodes-index l.lists)))
