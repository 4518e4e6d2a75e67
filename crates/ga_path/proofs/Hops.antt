-- What nodes without a fault are: each is a neighbour of the one before it, and they are 144 at
-- most.
use Rattle.std.proofs.Common.{◌≡◌, ℕ, ◌==◌, ◌+◌, ◌≤◌, Bool, true, false, List, [], ◌∷◌, length, Option, Some, None, is_none, IsSome, get_or, refl, sym, ap, subst, arith}
use Rattle.std.specs.Prelude.{IfSome, if◌then◌else◌}
use Rattle.std.specs.List.{AllByRecursion, IsDistinct, find}
use Rattle.std.specs.Option.{option_map_or, option_or}
use Rattle.std.proofs.lemmas.Bool.{true≢false, eqb-true}
use Rattle.ga_word.proofs.Find.{find_passes}
use Rattle.ga_place.specs.Node.{IsNodeName, is_among, is_edge}
use Rattle.ga_place.specs.Side.{SIDES, neighbour_of, side_to}
use Rattle.ga_place.specs.declared.side.Side.{Side}
use Rattle.ga_place.proofs.Names.{apart, few_names}
use Rattle.ga_place.proofs.SideLemmas.{neighbour_of-IsNodeName}
use Rattle.ga_path.specs.Route.{hop_fault, hops_fault, route_fault}
use Rattle.ga_path.specs.inner.Route.{AreHops}
use Rattle.ga_path.specs.declared.error.RouteError.{RouteError}
use Rattle.ga_path.specs.declared.error.RouteError.TheVariants.{NotEdge, NotNeighbour, Repeated}

-- ---- what a hop without a fault is

pub record IsHop (last : ℕ) (before : List ℕ) (name : ℕ) : Type 0 where
  pub near : IsSome (side_to last name)
  pub new : is_among name (last ∷ before) ≡ false

hop_by : (side : Option Side) (among : Bool) (near : RouteError) (again : RouteError)
    → (if is_none side then Some near else if among then Some again else None) ≡ None
    → IsSome side × (among ≡ false)
hop_by None among near again e = absurd cc
hop_by (Some side) true near again e = absurd cc
hop_by (Some side) false near again e = (refl, refl)

no_fault : (first second : Option RouteError) → option_or first second ≡ None
    → (first ≡ None) × (second ≡ None)
no_fault None second e = (refl, e)
no_fault (Some fault) second e = absurd cc

pub hop : (last : ℕ) (before : List ℕ) (name : ℕ) (names : List ℕ)
    → hops_fault (last ∷ before) (name ∷ names) ≡ None → IsHop last before name
hop last before name names e =
    let both =
    no_fault (hop_fault (last ∷ before) name) (hops_fault (name ∷ last ∷ before) names) e in
    let is = hop_by (side_to last name) (is_among name (last ∷ before))
    (NotNeighbour (length (last ∷ before))) (Repeated (length (last ∷ before))) both.0 in
    record { near = is.0; new = is.1 }

pub behind : (last : ℕ) (before : List ℕ) (name : ℕ) (names : List ℕ)
    → hops_fault (last ∷ before) (name ∷ names) ≡ None
    → hops_fault (name ∷ last ∷ before) names ≡ None
behind last before name names e =
    (no_fault (hop_fault (last ∷ before) name) (hops_fault (name ∷ last ∷ before) names) e).1

pub are_hops : (last : ℕ) (before names : List ℕ) → hops_fault (last ∷ before) names ≡ None
    → AreHops last names
are_hops last before [] e = tt
are_hops last before (name ∷ names) e = (
  (hop last before name names e).near,
  are_hops name (last ∷ before) names (behind last before name names e),
)

pub route_hops : (first : ℕ) (names : List ℕ) → route_fault (first ∷ names) ≡ None
    → hops_fault (first ∷ []) names ≡ None
route_hops first names e = by (is_edge first) e
  where
    by : (edge : Bool) → (if edge then hops_fault (first ∷ []) names else Some NotEdge) ≡ None
        → hops_fault (first ∷ []) names ≡ None
    by true e = e
    by false e = absurd cc

-- ---- a route has 144 nodes at most

found : {X : Type 0} (p : X → Bool) (xs : List X) (x : X) → find p xs ≡ Some x → p x ≡ true
found p xs x e = subst (λ o. IfSome o (λ y. p y ≡ true)) e (find_passes p xs)

leads : (there : Option ℕ) (other : ℕ) → option_map_or (λ here. here == other) there false ≡ true
    → there ≡ Some other
leads None other e = absurd cc
leads (Some there) other e = ap Some (eqb-true there other e)

-- a neighbour of a node is a node
pub near_node : (last name : ℕ) → IsNodeName last → (side : Option Side) → side_to last name ≡ side
    → IsSome side → IsNodeName name
near_node last name named None e some = absurd (true≢false (sym some))
near_node last name named (Some side) e some =
    neighbour_of-IsNodeName last name side named (leads (neighbour_of last side) name
    (found (λ s. option_map_or (λ here. here == name) (neighbour_of last s) false) SIDES side e))

few_behind : (last : ℕ) (before names : List ℕ) → hops_fault (last ∷ before) names ≡ None
    → IsDistinct ◌==◌ (last ∷ before) → AllByRecursion IsNodeName (last ∷ before)
    → length (last ∷ before) + length names ≤ 144
unfolding IsDistinct
few_behind last before [] e distinct named =
    let most = few_names (last ∷ before) distinct named in
    omega (arith, most)
few_behind last before (name ∷ names) e distinct named =
    let is = hop last before name names e in
    let rest = few_behind name (last ∷ before) names (behind last before name names e)
    (apart name (last ∷ before) is.new, distinct)
    (near_node last name named.0 (side_to last name) refl is.near, named) in
    omega (arith, rest)

pub few : (first : ℕ) (names : List ℕ) → IsNodeName first → route_fault (first ∷ names) ≡ None
    → length (first ∷ names) ≤ 144
unfolding IsDistinct
few first names named e =
    let most = few_behind first [] names (route_hops first names e) (tt, tt) (named, tt) in
    omega (arith, most)

pub at_most : (nodes : List ℕ) (first : ℕ) → first ≡ get_or nodes 0 first → IsNodeName first
    → route_fault nodes ≡ None → length nodes ≤ 144
at_most [] first is named e = absurd cc
at_most (node ∷ nodes) first is named e = few node nodes (subst IsNodeName is named) e
