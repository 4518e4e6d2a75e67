-- The nodes of rings, and where they are.
use Rattle.std.specs.Prelude.{ℕ, zero, suc, ◌==◌, Bool, true, false, List, [], ◌++◌, codes, Option, Some, None, if◌then◌else◌}
use Rattle.std.specs.List.{flat_map, range_with_len}
use Rattle.ga_place.specs.Cell.{name_at}
use Rattle.ga_asm.specs.Image.{ImageView}
use Rattle.ga_chip.specs.Chip.{Chip}
use Rattle.ga_waits.specs.Ring.{next_of}
use Rattle.ga_map.specs.Position.{position}

-- from a node on, each of which waits for the next, one is the first, within `fuel` nodes
abbrev pub comes_back : (ℕ → Option ℕ) → ℕ → ℕ → Option ℕ → Bool
comes_back next first fuel None = false
comes_back next first zero (Some name) = false
comes_back next first (suc fuel) (Some name) =
    if name == first then true else comes_back next first fuel (next name)

-- a node is in a ring; no ring has more nodes than the chip
unfoldable pub in_ring : Chip → ℕ → Bool
in_ring chip name = comes_back (next_of chip) name 144 (next_of chip name)

-- where a node of a ring is, as a line
abbrev pub ring_node : List (ℕ × ImageView) → Chip → ℕ → List ℕ
ring_node images chip name =
    if in_ring chip name then codes "  " ++ position images chip name ++ codes "\n" else []

-- all of them, in order of name
unfoldable pub ring_nodes : List (ℕ × ImageView) → Chip → List ℕ
ring_nodes images chip =
    flat_map (λ index. ring_node images chip (name_at index)) (range_with_len 0 144)
