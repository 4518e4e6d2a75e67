-- The numbers of a command line.
use Rattle.std.specs.Prelude.{ℕ, ◌≡◌, List, IsSomeAnd, Option, Some, None}
use Rattle.std.specs.Str.Parse.{IsNumeral, digits_value, without_leading_plus}
use Rattle.clap.specs.Words.{Row, Text, one_of}

-- a text writes a number in decimal digits, behind a plus or none
abbrev pub WritesNumber : Text → ℕ → Type 0
WritesNumber text number =
    IsNumeral 10 (without_leading_plus text)
    × (number ≡ digits_value 10 (without_leading_plus text))

-- the value of an argument is a number
abbrev pub IsNumberAt : Text → List Row → ℕ → Type 0
IsNumberAt id rows number = IsSomeAnd (one_of id rows) (λ text. WritesNumber text number)

-- the value of an argument that may be left out is a number, or there is none
abbrev pub IsNumberIfAt : Text → List Row → Option ℕ → Type 0
IsNumberIfAt id rows None = one_of id rows ≡ None
IsNumberIfAt id rows (Some number) = IsNumberAt id rows number
