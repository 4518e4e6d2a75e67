-- What the words of a command mean, each on its own.
use Rattle.std.specs.Prelude.{ℕ, ◌+◌, ◌-◌, ◌*◌, nat_lt, nat_le, ◌&&◌, List, [], ◌∷◌, codes, length, find, Option, Some, None, if◌then◌else◌}
use Rattle.std.specs.Char.{digit_value, is_digit}
use Rattle.std.specs.List.{list_all}
use Rattle.std.specs.Option.{option_and_then}
use Rattle.std.specs.Str.{bytes_eq}
use Rattle.ga_place.specs.Side.{SIDES}
use Rattle.ga_place.specs.declared.side.Side.{Side}
use Rattle.ga_place.specs.declared.side.Side.TheVariants.{Right, Down, Left, Up}
use Rattle.ga_chip.specs.declared.outcome.Outcome.{Outcome}
use Rattle.ga_chip.specs.declared.outcome.Outcome.TheVariants.{Moved, Waits, Held, Stopped}

-- an address of nine bits: three hex digits of either case
abbrev pub address_of : List ℕ → Option ℕ
address_of (a ∷ b ∷ c ∷ []) =
    let number = (digit_value a * 16 + digit_value b) * 16 + digit_value c in
    if (is_digit a 16 && (is_digit b 16 && is_digit c 16)) && nat_lt number 512 then Some number
    else None
address_of word = None

-- a side: the first letter of its name
abbrev pub side_letter : Side → List ℕ
side_letter Right = codes "r"
side_letter Down = codes "d"
side_letter Left = codes "l"
side_letter Up = codes "u"

abbrev pub side_of : List ℕ → Option Side
side_of word = find (λ side. bytes_eq (side_letter side) word) SIDES

-- the number that decimal digits write behind those of another number
abbrev pub decimal_from : ℕ → List ℕ → ℕ
decimal_from number [] = number
decimal_from number (c ∷ digits) = decimal_from (number * 10 + (c - 48)) digits

-- a number of one to n decimal digits, `0` to `9`
unfoldable pub decimal_of : ℕ → List ℕ → Option ℕ
decimal_of most word =
    if (nat_lt 0 (length word) && nat_le (length word) most)
    && list_all (λ c. nat_lt 47 c && nat_lt c 58) word
    then Some (decimal_from 0 word) else None

-- a count of turns: one to seven digits, up to 1000000
abbrev pub count_of : List ℕ → Option ℕ
count_of word =
    option_and_then (λ number. if nat_le number 1000000 then Some number
    else None) (decimal_of 7 word)

-- the outcome of a try
abbrev pub outcome_text : Outcome → List ℕ
outcome_text Moved = codes "moved"
outcome_text Waits = codes "waits"
outcome_text Held = codes "held"
outcome_text Stopped = codes "stopped"

abbrev pub outcome_of : List ℕ → Option Outcome
outcome_of word =
    find (λ outcome. bytes_eq (outcome_text outcome) word) (Moved ∷ Waits ∷ Held ∷ Stopped ∷ [])
