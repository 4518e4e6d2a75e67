-- Neighbours are nodes, and share a port under one name.
use Rattle.std.proofs.Common.{◌≡◌, ℕ, arith}
use Rattle.std.proofs.lemmas.Grind.{common_steps}
use Rattle.std.specs.Prelude.{Some}
use Rattle.ga_place.specs.Node.{IsNodeName}
use Rattle.ga_place.specs.Side.{neighbour_of}
use Rattle.ga_place.specs.declared.side.Side.{Side}
use Rattle.ga_place.specs.declared.side.Side.TheVariants.{Right}

-- a neighbour is a node
pub neighbour_of-IsNodeName : (name other : ℕ) (side : Side) → IsNodeName name
    → neighbour_of name side ≡ Some other → IsNodeName other
neighbour_of-IsNodeName name other Right named e = grind (arith, common_steps)
neighbour_of-IsNodeName name other _ named e = grind (arith, common_steps)

-- both neighbours give a port that they share one name
pub shared_port : (name other : ℕ) (side : Side) → IsNodeName name
    → neighbour_of name side ≡ Some other → neighbour_of other side ≡ Some name
shared_port name other Right named e = grind (arith, common_steps)
shared_port name other _ named e = grind (arith, common_steps)
