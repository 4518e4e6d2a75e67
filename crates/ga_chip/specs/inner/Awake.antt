-- What a chip keeps of the nodes that can't move, so that a turn leaves them out.
use Rattle.std.specs.Prelude.{◌≡◌, ◌≢◌, ℕ, ◌<◌, Bool, false, Option, Some, None}
use Rattle.std.specs.Option.{option_and_then}
use Rattle.ga_place.specs.Cell.{name_at}
use Rattle.ga_place.specs.Side.{neighbour_of, one_side}
use Rattle.ga_place.specs.declared.side.Side.{Side}
use Rattle.ga_node.specs.declared.need.Need.{Need}
use Rattle.ga_node.specs.declared.need.Need.TheVariants as need
use Rattle.ga_chip.specs.declared.outcome.Outcome.TheVariants.{Moved}
use Rattle.ga_chip.specs.declared.node_set.NodeSet.{NodeSet}
use Rattle.ga_chip.specs.inner.Bits.{is_bit}
use Rattle.ga_chip.specs.Part.{looked_at}
use Rattle.ga_chip.specs.Chip.{Chip, tried}
use Rattle.ga_chip.specs.Legal.{IsLegal}

-- the node at a place in order of name is in a set
unfoldable pub is_in : ℕ → NodeSet → Bool
is_in place set = is_bit place set.words

-- A legal chip, and its nodes that are awake. All others sleep: a try of one would move at no side.
pub record Knows (chip : Chip) (awake : NodeSet) : Type 0 where
  pub legal : IsLegal chip
  pub still : (index : ℕ) (side : Side) → index < 144 → is_in index awake ≡ false
      → (tried chip (name_at index) side).0 ≢ Moved

-- the side at which a step takes or posts a word
abbrev pub port_by : Need → Side → Option Side
port_by (need.Take sides) side = looked_at (one_side sides) sides side
port_by (need.Post to word) side = Some to
port_by _ side = None

-- the neighbour there
abbrev pub partner_of : ℕ → Need → Side → Option ℕ
partner_of name n side = option_and_then (neighbour_of name) (port_by n side)
