-- The four sides of a node, and where each leads.
use Rattle.std.specs.Prelude.{◌==◌, ℕ, ◌+◌, ◌-◌, ◌/◌, ◌%◌, Bool, false, ◌||◌, nat_lt, List, [], ◌∷◌, Option, Some, None, is_some, if◌then◌else◌}
use Rattle.std.specs.List.{find}
use Rattle.std.specs.Option.{option_map_or}
use Rattle.ga_place.specs.Node.{row_of, column_of}
use Rattle.ga_place.specs.declared.side.Side.{Side}
use Rattle.ga_place.specs.declared.side.Sides.{Sides}
use Rattle.ga_place.specs.declared.side.Side.TheVariants.{Right, Down, Left, Up}

-- a direction on the grid: columns count from west to east, and rows from south to north
pub data Direction : Type 0 where
  East : Direction
  West : Direction
  North : Direction
  South : Direction

-- the direction that a side of a node faces: east is right in even columns and left in odd ones,
-- and north is down in even rows and up in odd ones
abbrev pub direction_of : ℕ → Side → Direction
direction_of name Right = if column_of name % 2 == 0 then East else West
direction_of name Left = if column_of name % 2 == 0 then West else East
direction_of name Down = if row_of name % 2 == 0 then North else South
direction_of name Up = if row_of name % 2 == 0 then South else North

-- the next node in a direction, if the grid has one: 8 rows of 18 columns
abbrev pub next_node : ℕ → Direction → Option ℕ
next_node name East = if nat_lt (column_of name) 17 then Some (name + 1) else None
next_node name West = if nat_lt 0 (column_of name) then Some (name - 1) else None
next_node name North = if nat_lt (row_of name) 7 then Some (name + 100) else None
next_node name South = if nat_lt 0 (row_of name) then Some (name - 100) else None

-- the neighbour of a node at a side, if it has one
abbrev pub neighbour_of : ℕ → Side → Option ℕ
neighbour_of name side = next_node name (direction_of name side)

-- the four sides, in the order in which they are named and numbered
abbrev pub SIDES : List Side
SIDES = Right ∷ Down ∷ Left ∷ Up ∷ []

-- the side of a node at which another node is its neighbour, if it is one
abbrev pub side_to : ℕ → ℕ → Option Side
side_to name other =
    find (λ side. option_map_or (λ there. there == other) (neighbour_of name side) false) SIDES

-- a node has a side if it has a neighbour there
abbrev pub has_side : ℕ → Side → Bool
has_side name side = is_some (neighbour_of name side)

-- the bit of a side in a port address
abbrev pub side_bit : Side → ℕ
side_bit Right = 0x80
side_bit Down = 0x40
side_bit Left = 0x20
side_bit Up = 0x10

-- the bits of a set of sides, one for each side in it
abbrev pub bits_of : Sides → ℕ
bits_of sides = sides.0

-- the set of sides with these bits
abbrev pub sides_with : ℕ → Sides
sides_with bits = record { 0 = bits }

-- a side is in a set of sides
abbrev pub is_among : Side → Sides → Bool
is_among side sides = bits_of sides / side_bit side % 2 == 1

-- the one side in a set, if it has just one
abbrev pub one_side : Sides → Option Side
one_side sides =
    if bits_of sides == 0x80 then Some Right
    else (if bits_of sides == 0x40 then Some Down else (if bits_of sides == 0x20 then Some Left
    else (if bits_of sides == 0x10 then Some Up else None)))

-- the bit of a side that the node has, and else nothing
abbrev pub bit_there : ℕ → Side → ℕ
bit_there name side = if has_side name side then side_bit side else 0

-- the sides that a node has, as a sum of their bits
abbrev pub sides_bits : ℕ → ℕ
sides_bits name =
    bit_there name Right + bit_there name Down + bit_there name Left + bit_there name Up

-- the same sum by the edges of the grid: rows 0 and 7 lack up, columns 0 and 17 lack left, and
-- every node has right and down
abbrev pub sides_by_edge : ℕ → ℕ
sides_by_edge name =
    0x80 + 0x40 + (if (column_of name == 0) || (column_of name == 17) then 0 else 0x20)
    + (if (row_of name == 0) || (row_of name == 7) then 0 else 0x10)
