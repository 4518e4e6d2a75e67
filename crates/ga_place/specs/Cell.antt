-- The indices of the nodes in order of name, and the one-way cells between neighbours. A shared
-- port is two cells: each of its two nodes writes one, which the other reads.
use Rattle.std.specs.Prelude.{ℕ, ◌+◌, ◌*◌, ◌/◌, ◌%◌, ◌==◌, Bool, ◌&&◌, if◌then◌else◌, List, map, Option}
use Rattle.std.specs.List.{filter, flat_map, position, range_with_len}
use Rattle.std.specs.Option.{option_and_then}
use Rattle.ga_place.specs.Node.{row_of, column_of, is_node_name}
use Rattle.ga_place.specs.Side.{SIDES, has_side, neighbour_of, side_bit}
use Rattle.ga_place.specs.declared.side.Side.{Side}

-- the index of a node in order of name, from 0 to 143; a name of no node has the index 144
abbrev pub index_of : ℕ → ℕ
index_of name = if is_node_name name then row_of name * 18 + column_of name else 144

-- the name of the node at an index
abbrev pub name_at : ℕ → ℕ
name_at index = index / 18 * 100 + index % 18

-- All cells in order, each by its writer's name and the side at which it is written: a node writes
-- one at each side that it has, right, down, left, up.
unfoldable pub all_cells : List (ℕ × Side)
all_cells =
    flat_map (λ index. let name = name_at index in
    map (λ (side : Side). (name, side)) (filter (has_side name) SIDES)) (range_with_len 0 144)

abbrev pub is_cell : ℕ → Side → ℕ × Side → Bool
is_cell name side cell = (cell.0 == name) && (side_bit cell.1 == side_bit side)

-- the number of the cell that a node writes at a side, its index among all cells, if it has that
-- side
unfoldable pub cell_of : ℕ → Side → Option ℕ
cell_of name side = position (is_cell name side) all_cells

-- the number of the cell that a node reads at a side: the neighbour there writes it, and gives the
-- port that they share the same name
abbrev pub read_cell : ℕ → Side → Option ℕ
read_cell name side = option_and_then (λ other. cell_of other side) (neighbour_of name side)
