-- The nodes that are a route, and the faults of others.
use Rattle.std.specs.Prelude.{◌≡◌, ℕ, List, [], ◌∷◌, length, Option, Some, None, is_none, if◌then◌else◌}
use Rattle.std.specs.Option.{option_or}
use Rattle.ga_place.specs.Node.{is_among, is_edge}
use Rattle.ga_place.specs.Side.{side_to}
use Rattle.ga_path.specs.declared.error.RouteError.{RouteError}
use Rattle.ga_path.specs.declared.error.RouteError.TheVariants.{Empty, Memory, NotEdge, NotNeighbour, Repeated}

-- The fault of a node behind others, the last of them first: it is no neighbour of that one, or it
-- is among them.
abbrev pub hop_fault : List ℕ → ℕ → Option RouteError
hop_fault [] name = None
hop_fault (last ∷ before) name =
    if is_none (side_to last name) then Some (NotNeighbour (length (last ∷ before)))
    else if is_among name (last ∷ before) then Some (Repeated (length (last ∷ before)))
    else None

-- the fault of nodes behind others, the last of these first
abbrev pub hops_fault : List ℕ → List ℕ → Option RouteError
hops_fault before [] = None
hops_fault before (name ∷ names) =
    option_or (hop_fault before name) (hops_fault (name ∷ before) names)

-- the fault of nodes as a route
abbrev pub route_fault : List ℕ → Option RouteError
route_fault [] = Some Empty
route_fault (first ∷ names) = if is_edge first then hops_fault (first ∷ []) names else Some NotEdge

-- The fault of nodes. Want of memory is none.
abbrev pub IsRouteFault : List ℕ → RouteError → Type 0
IsRouteFault nodes Memory = Unit
IsRouteFault nodes fault = route_fault nodes ≡ Some fault

-- the fault of the first of some lists of nodes that are no route
abbrev pub routes_fault : List (List ℕ) → Option RouteError
routes_fault [] = None
routes_fault (nodes ∷ lists) = option_or (route_fault nodes) (routes_fault lists)

-- The fault of lists of nodes as routes. Want of memory is none.
abbrev pub IsRoutesFault : List (List ℕ) → RouteError → Type 0
IsRoutesFault lists Memory = Unit
IsRoutesFault lists fault = routes_fault lists ≡ Some fault
