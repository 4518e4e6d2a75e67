-- Numbers in the forms that the plain language lacks: below zero, in binary digits, of a character,
-- and of several sides.
use Rattle.std.specs.Prelude.{◌==◌, ◌&&◌, ℕ, ◌-◌, ◌%◌, ◌^◌, Bool, List, [], ◌∷◌, length, nat_le, nat_lt, Option, Some, None, Result, Ok, Err, if◌then◌else◌}
use Rattle.std.specs.Char.{is_digit}
use Rattle.std.specs.List.{list_all}
use Rattle.std.specs.Option.{option_map_or, option_or}
use Rattle.std.specs.Str.Parse.{digits_value}
use Rattle.ga_expand.specs.declared.error.ExpandErrorKind.{ExpandErrorKind}
use Rattle.ga_expand.specs.declared.error.ExpandErrorKind.TheVariants.{NumberRange}
use Rattle.ga_expand.specs.Sides.{as_sides}

-- the number that digits write, from one to a most of them
abbrev pub numeral : ℕ → ℕ → List ℕ → Option ℕ
numeral radix most digits =
    if nat_le 1 (length digits) && nat_le (length digits) most
    && list_all (λ c. is_digit c radix) digits
    then Some (digits_value radix digits) else None

-- `-` and one to eight decimal digits, with the number behind the sign
abbrev pub as_negative : List ℕ → Option ℕ
as_negative [] = None
as_negative (c ∷ digits) = if c == 45 then numeral 10 8 digits else None

-- `%` and one to eighteen binary digits
abbrev pub as_binary : List ℕ → Option ℕ
as_binary [] = None
as_binary (c ∷ digits) = if c == 37 then numeral 2 18 digits else None

-- a character of ASCII that can be seen
abbrev pub is_seen : ℕ → Bool
is_seen c = nat_lt 32 c && nat_lt c 127

-- such a character between two `'`, as its code
abbrev pub as_character : List ℕ → Option ℕ
as_character (a ∷ c ∷ b ∷ []) = if (a == 39) && (b == 39) && is_seen c then Some c else None
as_character _ = None

abbrev pub digits_or_character : List ℕ → Option ℕ
digits_or_character text = option_or (as_binary text) (as_character text)

-- The word below zero by a number, modulo 2 ^ 18. The lowest word is 2 ^ 17 below zero.
abbrev pub negated : ℕ → Result (Option ℕ) ExpandErrorKind
negated n = if nat_le n (2 ^ 17) then Ok (Some ((2 ^ 18 - n) % 2 ^ 18)) else Err NumberRange

-- the word that a token writes in one of these forms, if it is in one
unfoldable pub literal_of : List ℕ → Result (Option ℕ) ExpandErrorKind
literal_of text =
    option_map_or negated (as_negative text)
    (Ok (option_or (digits_or_character text) (as_sides text)))
