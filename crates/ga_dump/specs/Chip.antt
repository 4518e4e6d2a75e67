-- All nodes of a chip.
use Rattle.std.specs.Prelude.{ℕ, List, [], ◌++◌, Option, Some, None}
use Rattle.std.specs.List.{flat_map, range_with_len}
use Rattle.ga_place.specs.Cell.{name_at}
use Rattle.ga_node.specs.State.{State}
use Rattle.ga_chip.specs.Chip.{Chip, state_of}
use Rattle.ga_dump.specs.Ledger.{ledger_dump}
use Rattle.ga_dump.specs.Memory.{memory_dump}
use Rattle.ga_dump.specs.Node.{node_dump}

-- a node in a state: with its stacks, its memory, and the numbers of the cells that it writes
abbrev pub whole_node : Chip → ℕ → Option State → List ℕ
whole_node chip name (Some state) = node_dump state ++ (memory_dump state ++ ledger_dump chip name)
whole_node chip name None = []

-- the node at an index in order of name
abbrev pub node_at : Chip → ℕ → List ℕ
node_at chip index = whole_node chip (name_at index) (state_of chip (name_at index))

-- all nodes in that order
unfoldable pub chip_dump : Chip → List ℕ
chip_dump chip = flat_map (node_at chip) (range_with_len 0 144)
