-- What a reader takes from a text in VCD (IEEE 1364): the value of an identifier at a time.
--
-- These are the format's own rules, for those of its forms that a waveform has. They don't speak of
-- a chip.
use Rattle.std.specs.Prelude.{ℕ, ◌==◌, Bool, ◌&&◌, ◌||◌, not, List, [], ◌∷◌, ◌++◌, codes, nat_le, Option, Some, None, unwrap_or, if◌then◌else◌}
use Rattle.std.specs.Char.{is_digit}
use Rattle.std.specs.List.{list_all, slice_split}
use Rattle.std.specs.Option.{option_and_then, option_or}
use Rattle.std.specs.Str.{bytes_eq}
use Rattle.std.specs.Str.Parse.{digits_value}
use Rattle.ga_word.specs.Text.{is_blank, is_empty}

-- ---- lines

-- the parts of a text between LFs
abbrev pub lines_in : List ℕ → List (List ℕ)
lines_in text = slice_split (λ byte. byte == 10) text

-- This line ends the declarations. The lines behind it are value changes with their times.
abbrev pub LAST_DECLARATION : List ℕ
LAST_DECLARATION = codes "$enddefinitions $end"

abbrev pub behind_declarations : List (List ℕ) → List (List ℕ)
behind_declarations [] = []
behind_declarations (line ∷ lines) =
    if bytes_eq line LAST_DECLARATION then lines else behind_declarations lines

-- ---- times

abbrev pub is_number : List ℕ → Bool
is_number digits = not (is_empty digits) && list_all (λ digit. is_digit digit 10) digits

-- the time that a line sets: `#` and a decimal number
abbrev pub time_in : List ℕ → Option ℕ
time_in [] = None
time_in (first ∷ digits) =
    if (first == 35) && is_number digits then Some (digits_value 10 digits) else None

-- Lines with their times. A time is that of the lines behind it too, up to the next one, and `now`
-- that of the lines in front of the first one.
abbrev pub timed : ℕ → List (List ℕ) → List (ℕ × List ℕ)
timed now [] = []
timed now (line ∷ lines) =
    let time = unwrap_or (time_in line) now in (time, line) ∷ timed time lines

-- ---- values

-- the characters that are the value of one bit
abbrev pub is_bit : ℕ → Bool
is_bit byte = (byte == 48) || (byte == 49)

-- those that begin a longer value: `b` begins bits, and `s` a text
abbrev pub is_longer : ℕ → Bool
is_longer byte = (byte == 98) || (byte == 115)

-- a word has no blanks
abbrev pub is_word : List ℕ → Bool
is_word text = list_all (λ byte. not (is_blank byte)) text

-- A longer value and its identifier are two words with a blank between them.
abbrev pub longer_change : List (List ℕ) → Option (List ℕ × List ℕ)
longer_change (value ∷ identifier ∷ []) = Some (identifier, value ++ codes " ")
longer_change words = None

-- The identifier that a line gives a value, and the text of the value, which is in front of it: one
-- character for one bit. Each other line gives none: that of a time, `$dumpvars`, `$end`, and a
-- comment, which is one line here.
abbrev pub change_in : List ℕ → Option (List ℕ × List ℕ)
change_in [] = None
change_in (first ∷ rest) =
    if is_bit first then Some (rest, first ∷ [])
    else if is_longer first then longer_change (slice_split is_blank (first ∷ rest)) else None

-- what a line gives this identifier
abbrev pub value_in : List ℕ → List ℕ → Option (List ℕ)
value_in identifier line =
    option_and_then (λ change. if bytes_eq change.0 identifier then Some change.1 else None)
    (change_in line)

-- what the last of some lines with times up to this one gives it
abbrev pub last_value : List ℕ → ℕ → List (ℕ × List ℕ) → Option (List ℕ)
last_value identifier time [] = None
last_value identifier time (line ∷ lines) =
    option_or (last_value identifier time lines)
    (if nat_le line.0 time then value_in identifier line.1 else None)

-- The value of an identifier at a time, by a text: what the last line up to this time that gives it
-- one gives it.
unfoldable pub read_at : List ℕ → List ℕ → ℕ → Option (List ℕ)
read_at text identifier time =
    last_value identifier time (timed 0 (behind_declarations (lines_in text)))
