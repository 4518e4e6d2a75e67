-- The tokens of a source text and their places.
--
-- A text is the list of its bytes in UTF-8. Blanks and line ends are bytes below 128, so no
-- character is cut.
use Rattle.std.specs.Prelude.{◌==◌, ◌||◌, ℕ, ◌+◌, Bool, not, List, [], ◌∷◌, ◌++◌, codes, count_by, filter, length, map, nat_le, nat_lt, take, if◌then◌else◌}
use Rattle.std.specs.List.{slice_split}
use Rattle.std.specs.Str.{bytes_eq}
use Rattle.ga_word.specs.Text.{is_blank, is_empty}

-- a line and a column, each from 1
pub record Place : Type 0 where
  pub line : ℕ
  pub column : ℕ

-- a token: its place, the offset of its first byte in the text, and its bytes
pub record Lexeme : Type 0 where
  pub place : Place
  pub start : ℕ
  pub text : List ℕ

-- a run of bytes without a blank, with its offset in its line
pub record Run : Type 0 where
  pub offset : ℕ
  pub text : List ℕ

-- runs with one blank between them, the first at an offset
abbrev pub runs_from : ℕ → List (List ℕ) → List Run
runs_from offset [] = []
runs_from offset (text ∷ texts) =
    record { offset = offset; text = text } ∷ runs_from (offset + length text + 1) texts

-- The run `\` begins a comment, which reaches to the end of its line.
abbrev pub before_comment : List Run → List Run
before_comment [] = []
before_comment (run ∷ runs) =
    if bytes_eq run.text (codes "\\") then [] else run ∷ before_comment runs

-- a byte that begins a character in UTF-8: all but 80 to BF (hexadecimal)
abbrev pub begins_character : ℕ → Bool
begins_character byte = nat_lt byte 0x80 || nat_le 0xC0 byte

-- Columns count characters: the place behind some bytes of a line.
abbrev pub place_behind : ℕ → List ℕ → Place
place_behind line bytes = record { line = line; column = 1 + count_by begins_character bytes }

-- the tokens of a line, which has a number and begins at an offset: its runs that are not empty
abbrev pub line_lexemes : ℕ → ℕ → List ℕ → List Lexeme
line_lexemes line offset bytes =
    let runs = filter (λ run. not (is_empty run.text)) (runs_from 0 (slice_split is_blank bytes)) in
    map (λ run. record {
      place = place_behind line (take run.offset bytes);
      start = offset + run.offset;
      text = run.text;
    }) (before_comment runs)

-- the tokens of lines, the first of which has a number and begins at an offset
abbrev pub lexemes_from : ℕ → ℕ → List (List ℕ) → List Lexeme
lexemes_from line offset [] = []
lexemes_from line offset (bytes ∷ lines) =
    line_lexemes line offset bytes ++ lexemes_from (line + 1) (offset + length bytes + 1) lines

-- Lines end by LF. The text behind the last LF is a line too.
abbrev pub lines_of : List ℕ → List (List ℕ)
lines_of text = slice_split (λ byte. byte == 10) text

-- the tokens of a text
unfoldable pub lexemes : List ℕ → List Lexeme
lexemes text = lexemes_from 1 0 (lines_of text)

-- what the tokens of a text are written as
unfoldable pub texts_of : List ℕ → List (List ℕ)
texts_of text = map (λ lexeme. lexeme.text) (lexemes text)

abbrev pub end_from : ℕ → List (List ℕ) → Place
end_from line [] = place_behind line []
end_from line (bytes ∷ []) = place_behind line bytes
end_from line (bytes ∷ next ∷ lines) = end_from (line + 1) (next ∷ lines)

-- the place behind the last character of a text
unfoldable pub end_of : List ℕ → Place
end_of text = end_from 1 (lines_of text)

-- the places of the tokens of a text, and that of its end
unfoldable pub places_of : List ℕ → List Place
places_of text = map (λ lexeme. lexeme.place) (lexemes text) ++ end_of text ∷ []
