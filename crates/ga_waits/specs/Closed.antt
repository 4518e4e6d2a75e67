-- The largest closed set of nodes, as a function of the chip.
use Rattle.std.specs.Prelude.{ℕ, zero, suc, Bool, false, ◌&&◌}
use Rattle.std.specs.Option.{option_map_or}
use Rattle.ga_place.specs.Node.{is_node_name}
use Rattle.ga_chip.specs.Chip.{Chip, part_of}
use Rattle.ga_chip.specs.Stuck.{is_stuck}

-- A node stays in a set if it can't go on as long as no node of the set does.
abbrev pub stays_in : Chip → (ℕ → Bool) → ℕ → Bool
stays_in chip inside name =
    inside name && option_map_or (is_stuck inside chip.cells) (part_of chip name) false

-- what is left of all nodes after rounds, in each of which all nodes that don't stay are left out
abbrev pub left_after : Chip → ℕ → ℕ → Bool
left_after chip zero = is_node_name
left_after chip (suc rounds) = stays_in chip (left_after chip rounds)

-- As long as a round leaves out a node, fewer are left, so after 144 rounds no more are left out.
unfoldable pub stuck_in : Chip → ℕ → Bool
stuck_in chip = left_after chip 144
