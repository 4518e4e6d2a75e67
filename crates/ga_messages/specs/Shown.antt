-- What is shown of a text behind the line that names its fault.
use Rattle.std.specs.Prelude.{◌==◌, ◌&&◌, ◌||◌, Bool, ℕ, ◌-◌, List, [], ◌++◌, Option, Some, None, codes, drop, map, nat_le, not, slice_index_or, take, if◌then◌else◌}
use Rattle.std.specs.Char.{is_control}
use Rattle.std.specs.Str.{chars, encode_utf8_all}
use Rattle.std.specs.Str.Lines.{lines}
use Rattle.ga_pack.specs.Model.Text.{lines_of}

-- The line of a text with a number from 1, without the LF or CR LF that ends it. A line that the
-- text doesn't have is empty, and so is the line 0.
abbrev pub numbered_line : List ℕ → ℕ → List ℕ
numbered_line text line = slice_index_or (lines text) (line - 1) []

-- The same line up to the LF, so that a CR at its end is part of it.
abbrev pub whole_line : List ℕ → ℕ → List ℕ
whole_line text line = slice_index_or (lines_of text) (line - 1) []

-- If the column is past 80, only 40 of the characters before it are shown.
abbrev pub left_out : ℕ → ℕ
left_out column = if nat_le column 80 then 0 else column - 41

-- A character that isn't drawn: it has no width, ends a line, or sets the direction of writing.
-- These are U+200B to U+200F, U+2028 to U+202E, U+2066 to U+2069, U+061C and U+FEFF.
abbrev pub is_undrawn : ℕ → Bool
is_undrawn c =
    (nat_le 0x200B c && nat_le c 0x200F) || ((nat_le 0x2028 c && nat_le c 0x202E)
    || ((nat_le 0x2066 c && nat_le c 0x2069) || (c == 0x061C || c == 0xFEFF)))

-- a control character other than the tab is shown as a blank, and so is a character that isn't
-- drawn
abbrev pub shown_char : ℕ → ℕ
shown_char c = if (is_control c && not (c == 9)) || is_undrawn c then 32 else c

-- at most 100 characters of a line, from an index on
abbrev pub shown_line : List ℕ → ℕ → List ℕ
shown_line line skipped = encode_utf8_all (map shown_char (take 100 (drop skipped (chars line))))

-- the text before a caret under a column, or behind the line if it has fewer characters: a tab
-- under a tab, else a blank
abbrev pub line_under : List ℕ → ℕ → ℕ → List ℕ
line_under line skipped column =
    encode_utf8_all (map (λ c. if c == 9 then 9 else 32)
    (take (column - 1 - skipped) (drop skipped (chars line))))

-- The line of a place in a text, a caret under its column, and what is meant. Without a column
-- there is no caret.
unfoldable pub shown_text : List ℕ → ℕ → Option ℕ → List ℕ → List ℕ
shown_text text line None meaning =
    codes "  " ++ shown_line (numbered_line text line) 0 ++ codes "\n" ++ meaning
shown_text text line (Some column) meaning =
    codes "  " ++ shown_line (numbered_line text line) (left_out column) ++ codes "\n  "
    ++ line_under (numbered_line text line) (left_out column) column ++ codes "^\n" ++ meaning

-- lines with an LF between two, each character of them as it is shown
unfoldable pub shown_lines : List ℕ → List ℕ
shown_lines text = encode_utf8_all (map (λ c. if c == 10 then 10 else shown_char c) (chars text))

-- the name of a file, each character of it as it is shown
abbrev pub shown_name : List ℕ → List ℕ
shown_name name = encode_utf8_all (map shown_char (chars name))
