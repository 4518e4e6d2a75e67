-- Numbers in hex digits, and the five digits of a word.
use Rattle.std.specs.Prelude.{◌==◌, ◌&&◌, ℕ, zero, suc, ◌+◌, ◌*◌, ◌/◌, ◌%◌, ◌^◌, Bool, true, List, [], ◌∷◌, ◌++◌, length, nat_lt, Option, Some, None, if◌then◌else◌}
use Rattle.std.specs.List.{list_all}
use Rattle.std.specs.Char.{digit_value, is_digit}
use Rattle.std.specs.Fmt.{digit_glyph}

-- the low digits of a number, as many as `width`, the highest first, in upper case
unfoldable pub hex_digits : ℕ → ℕ → List ℕ
hex_digits zero n = []
hex_digits (suc width) n = hex_digits width (n / 16) ++ digit_glyph true (n % 16) ∷ []

-- the number that digits of either case write
abbrev pub hex_number : List ℕ → ℕ
hex_number [] = 0
hex_number (digit ∷ digits) = digit_value digit * 16 ^ length digits + hex_number digits

-- five digits that write a number below 2 ^ 18
unfoldable pub is_word_text : List ℕ → Bool
is_word_text text =
    (length text == 5) && (list_all (λ c. is_digit c 16) text)
    && (nat_lt (hex_number text) (2 ^ 18))

-- the word that a text writes, if it writes one
abbrev pub word_of : List ℕ → Option ℕ
word_of text = if is_word_text text then Some (hex_number text) else None
