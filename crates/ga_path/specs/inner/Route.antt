-- The hops of a route.
use Rattle.std.specs.Prelude.{ℕ, List, [], ◌∷◌, IsSome}
use Rattle.ga_place.specs.Side.{side_to}

-- each node is a neighbour of the one before it
abbrev pub AreHops : ℕ → List ℕ → Type 0
AreHops from [] = Unit
AreHops from (name ∷ names) = IsSome (side_to from name) × AreHops name names
