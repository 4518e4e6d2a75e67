-- The nodes of a chip as a picture, north at the top.
use Rattle.std.specs.Prelude.{ℕ, ◌+◌, ◌-◌, ◌*◌, ◌==◌, List, [], ◌∷◌, ◌++◌, codes, length, take, if◌then◌else◌}
use Rattle.std.specs.Char.{is_ascii_whitespace}
use Rattle.std.specs.Fmt.{decimal}
use Rattle.std.specs.List.{flat_map, range_with_len, suffix_len}
use Rattle.ga_place.specs.Cell.{name_at}
use Rattle.ga_chip.specs.Chip.{Chip}
use Rattle.ga_map.specs.Link.{east_side, east_text, link_at, south_side, south_text}
use Rattle.ga_map.specs.Mark.{mark_of, mark_text}

-- a line without the blanks at its end; none if nothing is left of it
abbrev pub trimmed : List ℕ → List ℕ
trimmed line = take (length line - suffix_len is_ascii_whitespace line) line

abbrev pub line_of : List ℕ → List ℕ
line_of line = if length line == 0 then [] else line ++ 10 ∷ []

unfoldable pub shown_line : List ℕ → List ℕ
shown_line line = line_of (trimmed line)

-- a node in its row, with the link to the next node of the row
abbrev pub node_cell : Chip → ℕ → List ℕ
node_cell chip name =
    mark_text (mark_of chip name) ++ east_text (link_at chip name (east_side name))

-- the link to the node below, under the middle of the mark
abbrev pub south_cell : Chip → ℕ → List ℕ
south_cell chip name = 32 ∷ south_text (link_at chip name (south_side name)) ++ codes "  "

-- the nodes of a row from west to east, behind its number
unfoldable pub row_cells : (ℕ → List ℕ) → ℕ → List ℕ
row_cells cell row = flat_map (λ column. cell (name_at (row * 18 + column))) (range_with_len 0 18)

abbrev pub node_line : Chip → ℕ → List ℕ
node_line chip row = shown_line (decimal row ++ codes "  " ++ row_cells (node_cell chip) row)

-- the links to the row below
abbrev pub south_line : Chip → ℕ → List ℕ
south_line chip row = shown_line (codes "   " ++ row_cells (south_cell chip) row)

-- a row with the links below it
abbrev pub row_text : Chip → ℕ → List ℕ
row_text chip row = node_line chip row ++ south_line chip row

unfoldable pub picture : Chip → List ℕ
picture chip =
    codes "    0   1   2   3   4   5   6   7   8   9  10  11  12  13  14  15  16  17\n"
    ++ flat_map (λ count. row_text chip (7 - count)) (range_with_len 0 8)

-- what the signs mean
unfoldable pub LEGEND : List ℕ
LEGEND =
    codes "[#] works  [?] waits for a word  [!] waits for its word to be read\n"
    ++ codes "[ ] idle  [~] spins  [=] held  [x] stopped   .  not started\n"
    ++ codes "- | words went here  > < v ^ a word is pending and goes this way  X two words\n"
