-- Texts that are written between blanks as one token.
use Rattle.std.specs.Prelude.{◌≡◌, ◌≤◌, ◌==◌, ◌&&◌, ℕ, Bool, true, not, List, codes, length, nat_lt, slice_range}
use Rattle.std.specs.List.{list_all}
use Rattle.std.specs.Str.{bytes_eq}
use Rattle.ga_word.specs.Text.{is_blank, is_empty}
use Rattle.ga_source.specs.declared.token.Token.{Token}
use Rattle.ga_expand.specs.Expanding.{Piece, is_ascii}

-- a text that isn't empty, begins no comment and has no blank
abbrev pub is_token : List ℕ → Bool
is_token text =
    not (is_empty text) && not (bytes_eq text (codes "\\")) && list_all (λ c. not (is_blank c)) text

-- it is written as a token, by characters of ASCII
abbrev pub is_written : Piece → Bool
is_written piece = is_token piece.text && is_ascii piece.text

-- a token with its place in a text
abbrev pub IsTokenOf : List ℕ → Token → Type 0
IsTokenOf text token =
    (token.start ≤ token.end) × (token.end ≤ length text)
    × (is_token (slice_range text token.start token.end) ≡ true)

-- a character of ASCII with which no form of the larger language is written
abbrev pub is_plain_byte : ℕ → Bool
is_plain_byte c =
    nat_lt c 128 && not (c == 45) && not (c == 37) && not (c == 39) && not (c == 124)
