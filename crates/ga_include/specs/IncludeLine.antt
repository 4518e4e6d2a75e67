-- Which lines include a file, and the names in them.
use Rattle.std.specs.Prelude.{◌==◌, ◌&&◌, ◌||◌, ℕ, ◌+◌, ◌-◌, Bool, true, false, not, List, [], ◌∷◌, codes, length, slice_get, Option, Some, None, if◌then◌else◌}
use Rattle.std.specs.List.{after_first, before_first, list_any, position}
use Rattle.std.specs.Option.{option_and_then, unwrap_or}
use Rattle.std.specs.Str.{bytes_eq}
use Rattle.ga_word.specs.Text.{is_blank, is_empty, tokens}

abbrev pub is_first : List ℕ → List (List ℕ) → Bool
is_first token [] = false
is_first token (first ∷ rest) = bytes_eq first token

-- a line whose first token is `include`
abbrev pub is_include : List ℕ → Bool
is_include line = is_first (codes "include") (tokens line)

-- The column of the first token of a line. In front of it are only blanks, and each is a byte and a
-- character.
abbrev pub column_of : List ℕ → ℕ
column_of line = unwrap_or (position (λ c. not (is_blank c)) line) 0 + 1

abbrev pub is_quote : ℕ → Bool
is_quote c = c == 34

-- the parts of a text before its first quote and behind it
abbrev pub parts_at_quote : List ℕ → Option (List ℕ × List ℕ)
parts_at_quote text =
    if list_any is_quote text then Some (before_first is_quote text, after_first is_quote text)
    else None

abbrev pub is_blank_there : Option ℕ → Bool
is_blank_there (Some c) = is_blank c
is_blank_there None = false

abbrev pub is_only : List ℕ → List (List ℕ) → Bool
is_only token (first ∷ []) = bytes_eq first token
is_only token tokens = false

-- in front of the name: blanks, `include`, and at least one blank
abbrev pub is_front : List ℕ → Bool
is_front text =
    is_only (codes "include") (tokens text)
    && is_blank_there (slice_get text (length text - 1))

-- no tokens, but perhaps a comment
abbrev pub is_comment_or_none : List (List ℕ) → Bool
is_comment_or_none [] = true
is_comment_or_none (first ∷ rest) = bytes_eq first (codes "\\")

-- behind the name: blanks, and a comment behind a blank
abbrev pub is_tail : List ℕ → Bool
is_tail text =
    is_empty text || (is_blank_there (slice_get text 0) && is_comment_or_none (tokens text))

-- The parts around the second quote of a line are a name, which has some bytes, and what is behind
-- it.
abbrev pub name_between : List ℕ → List ℕ × List ℕ → Option (List ℕ)
name_between front parts =
    if is_front front && not (is_empty parts.0) && is_tail parts.1 then Some parts.0 else None

-- the name in a line that includes a file: between its first two quotes
unfoldable pub name_in : List ℕ → Option (List ℕ)
name_in line =
    option_and_then
    (λ parts. option_and_then (name_between parts.0) (parts_at_quote parts.1))
    (parts_at_quote line)
