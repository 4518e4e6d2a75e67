-- Which node has the path of a run in each column.
use Rattle.std.specs.Prelude.{ℕ, zero, suc, ◌-◌, ◌/◌, ◌==◌, ◌&&◌, Bool, false, List, [], ◌∷◌, Option, Some, None, map, nat_le, nat_lt, if◌then◌else◌}
use Rattle.std.specs.List.{range_with_len}
use Rattle.std.specs.Option.{option_map_or, option_or}
use Rattle.ga_chip.specs.Chip.{Chip}
use Rattle.ga_profile.specs.declared.window.Window.{Window}
use Rattle.ga_profile.specs.Path.{Path, node_index, path_in}
use Rattle.ga_report.specs.Columns.{columns_of, stride_of}

-- the column of a turn, if the window has it
abbrev pub column_at : Window → ℕ → Option ℕ
column_at part turn =
    if nat_le part.first turn && nat_lt turn part.end
    then Some ((turn - part.first) / stride_of part) else None

abbrev pub is_in_column : Window → ℕ → ℕ → Bool
is_in_column part column turn =
    option_map_or (λ other. other == column) (column_at part turn) false

-- the index of the node that made the last step of a path in a column
abbrev pub last_in : Window → ℕ → Path → Option ℕ
last_in part column [] = None
last_in part column (end ∷ path) =
    if is_in_column part column end.0.turn then Some (node_index end.0)
    else last_in part column path

-- the node that has a path in the last of some columns: the one in that column, or else in the
-- columns before
abbrev pub held : (ℕ → Option ℕ) → ℕ → Option ℕ
held last zero = None
held last (suc column) = option_or (last column) (held last column)

-- The nodes that have the path of a window, in the columns of a part of it.
unfoldable pub holders_in : Window → Window → Chip → List (Option ℕ)
holders_in whole part chip =
    map (λ column. held (λ at. last_in part at (path_in whole chip)) (suc column))
    (range_with_len 0 (columns_of part))
