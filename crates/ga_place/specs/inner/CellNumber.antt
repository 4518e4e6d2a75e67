-- The number of a cell in closed form. `proofs/CellNumbers.antt` shows that it is the cell's place
-- among all.
use Rattle.std.specs.Prelude.{ℕ, ◌+◌, ◌-◌, ◌*◌, ◌==◌, if◌then◌else◌, Option, Some, None}
use Rattle.ga_place.specs.Node.{row_of, column_of}
use Rattle.ga_place.specs.Side.{has_side}
use Rattle.ga_place.specs.declared.side.Side.{Side}
use Rattle.ga_place.specs.declared.side.Side.TheVariants.{Right, Down, Left, Up}

-- How many cells have a writer of a lower name. Row 0 has 52 and each row up to 6 has 70: two or
-- three of each node, and one less of the first and the last, which lack left.
abbrev pub cells_before : ℕ → ℕ
cells_before name =
    (if row_of name == 0 then 0 else 52 + 70 * (row_of name - 1)) + column_of name
    * (if has_side name Up then 3 else 2) + (column_of name - 1)

-- how many cells of a node come before the one at a side that it has
abbrev pub rank : ℕ → Side → ℕ
rank name Right = 0
rank name Down = 1
rank name Left = 2
rank name Up = if has_side name Left then 3 else 2

-- the number of a cell, if the node has that side
abbrev pub cell_number : ℕ → Side → Option ℕ
cell_number name side =
    if has_side name side then Some (cells_before name + rank name side) else None
