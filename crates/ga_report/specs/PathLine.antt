-- The path of a run, as lines at the foot of the rows.
use Rattle.std.specs.Prelude.{ℕ, ◌+◌, ◌-◌, ◌==◌, Bool, false, List, [], ◌∷◌, codes, length, Option, Some, None, if◌then◌else◌}
use Rattle.std.specs.List.{concat, flat_map, range_with_len, slice_get}
use Rattle.ga_place.specs.Cell.{index_of}
use Rattle.ga_report.specs.Line.{edge_text}

-- the node with an index has the path in a column
abbrev pub is_holder : ℕ → Option (Option ℕ) → Bool
is_holder index (Some (Some holder)) = holder == index
is_holder index (Some None) = false
is_holder index None = false

abbrev pub has_path : List (Option ℕ) → ℕ → ℕ → Bool
has_path holders index column = is_holder index (slice_get holders column)

-- and in the column before
abbrev pub had_path : List (Option ℕ) → ℕ → ℕ → Bool
had_path holders index column =
    if column == 0 then false else has_path holders index (column - 1)

-- the parts of a line at the foot of the row
abbrev pub path_edge : List (Option ℕ) → ℕ → ℕ → List ℕ
path_edge holders index column =
    edge_text 23 column (had_path holders index column) (has_path holders index column)

unfoldable pub path_edges : List (Option ℕ) → ℕ → List ℕ
path_edges holders index =
    flat_map (path_edge holders index) (range_with_len 0 (length holders + 1))

-- the line, if it has a part
unfoldable pub path_with : List ℕ → List ℕ
path_with parts = concat (codes "<path class='path' d='" ∷ parts ∷ codes "'/>" ∷ [])

abbrev pub path_if : List ℕ → List ℕ
path_if parts = if length parts == 0 then [] else path_with parts

-- The line of a node, by who has the path in each column.
abbrev pub path_line : List (Option ℕ) → ℕ → List ℕ
path_line holders name = path_if (path_edges holders (index_of name))
