-- A row of the timeline as lines.
use Rattle.std.specs.Prelude.{ℕ, ◌+◌, ◌-◌, ◌==◌, Bool, true, false, List, [], ◌∷◌, ◌++◌, codes, length, if◌then◌else◌}
use Rattle.std.specs.Fmt.{decimal}
use Rattle.std.specs.List.{concat, flat_map, range_with_len, slice_get}
use Rattle.std.specs.Option.{option_map_or}
use Rattle.ga_report.specs.declared.kind.Kind.{Kind}
use Rattle.ga_report.specs.declared.kind.Kind.TheVariants.{AwaitsWord, AwaitsReader}
use Rattle.ga_report.specs.Kind.{KINDS, class_of, is_same}

-- The height of a kind in a row, from 0 at its head to 24 at its foot: who waits for a word is at
-- the foot, and who waits for a reader at the head.
abbrev pub level_of : Kind → ℕ
level_of AwaitsWord = 21
level_of AwaitsReader = 3
level_of kind = 12

-- a row shows a kind in a column, and in the column before
abbrev pub shows : List Kind → Kind → ℕ → Bool
shows row kind column = option_map_or (λ shown. is_same shown kind) (slice_get row column) false

abbrev pub shows_before : List Kind → Kind → ℕ → Bool
shows_before row kind column = if column == 0 then false else shows row kind (column - 1)

-- a part begins or ends with a column
abbrev pub edge_text : ℕ → ℕ → Bool → Bool → List ℕ
edge_text level column false true = codes "M" ++ decimal column ++ codes " " ++ decimal level
edge_text level column true false = codes "H" ++ decimal column
edge_text level column was is = []

abbrev pub edge : List Kind → Kind → ℕ → List ℕ
edge row kind column =
    edge_text (level_of kind) column (shows_before row kind column) (shows row kind column)

-- the parts of a row that show a kind, as the data of a path
unfoldable pub path_data : List Kind → Kind → List ℕ
path_data row kind = flat_map (edge row kind) (range_with_len 0 (length row + 1))

-- the path of a kind, if it has a part
unfoldable pub line_with : Kind → List ℕ → List ℕ
line_with kind parts =
    concat (codes "<path class='" ∷ class_of kind ∷ codes "' d='" ∷ parts ∷ codes "'/>" ∷ [])

abbrev pub line_if : Kind → List ℕ → List ℕ
line_if kind parts = if length parts == 0 then [] else line_with kind parts

abbrev pub line_of : List Kind → Kind → List ℕ
line_of row kind = line_if kind (path_data row kind)

-- A path for each kind that a row shows.
unfoldable pub lines : List Kind → List ℕ
lines row = flat_map (line_of row) KINDS
