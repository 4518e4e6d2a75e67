-- The memory of a node.
use Rattle.std.specs.Prelude.{ℕ, ◌*◌, List, ◌++◌, take, drop}
use Rattle.std.specs.List.{flat_map, range_with_len}
use Rattle.ga_word.specs.Hex.{hex_digits}
use Rattle.ga_node.specs.State.{State}
use Rattle.ga_dump.specs.Row.{row_of}

-- a line of eight words behind the address of the first, in three hex digits
abbrev pub memory_row : List ℕ → ℕ → List ℕ
memory_row ram row = hex_digits 3 (8 * row) ++ row_of (take 8 (drop (8 * row) ram))

-- the 64 words in eight lines
unfoldable pub memory_dump : State → List ℕ
memory_dump state = flat_map (memory_row state.ram) (range_with_len 0 8)
