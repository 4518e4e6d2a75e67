-- Constants, the names that they may have, and the values that tokens write.
use Rattle.std.specs.Prelude.{◌||◌, ◌==◌, ◌-◌, ◌^◌, ℕ, Bool, false, ℤ, pos, unsigned_abs, List, [], ◌∷◌, codes, length, nat_lt, slice_index_or, take, Option, Some, None, Result, Ok, Err, if◌then◌else◌}
use Rattle.std.specs.Int.{int_rem_euclid}
use Rattle.std.specs.List.{list_any}
use Rattle.std.specs.Option.{is_some, option_map_or, option_or}
use Rattle.std.specs.Str.{bytes_eq}
use Rattle.ga_pack.specs.Model.Token.{is_name, is_reserved, number_named}
use Rattle.ga_expand.specs.declared.error.ExpandErrorKind.{ExpandErrorKind}
use Rattle.ga_expand.specs.declared.error.ExpandErrorKind.TheVariants.{BadToken, NumberRange}
use Rattle.ga_expand.specs.declared.value.Operand.{Operand}
use Rattle.ga_expand.specs.declared.value.Operand.TheVariants.{Number, Ports}
use Rattle.ga_expand.specs.Literal.{numeral}
use Rattle.ga_expand.specs.Sides.{is_side}

-- Names and their values: each is a whole number, or the address of ports that is written as one.
abbrev pub Constants : Type 0
Constants = List (List ℕ × Operand)

-- the whole number that a value is
abbrev pub number_of : Operand → ℤ
number_of (Number number) = number
number_of (Ports address) = pos address

-- the word of a constant: its number modulo 2 ^ 18
abbrev pub constant_word : Operand → ℕ
constant_word value = unsigned_abs (int_rem_euclid (number_of value) (pos (2 ^ 18)))

abbrev pub constant_of : Constants → List ℕ → Option Operand
constant_of [] text = None
constant_of (constant ∷ constants) text =
    if bytes_eq text constant.0 then Some constant.1 else constant_of constants text

-- the value of the constant that a token names
abbrev pub constant_named : Constants → List ℕ → Option Operand
constant_named constants text = if is_name text then constant_of constants text else None

-- the label that a token defines: what is in front of the colon with which it ends
abbrev pub label_defined : List ℕ → Option (List ℕ)
label_defined text =
    if slice_index_or text (length text - 1) 0 == 58 then Some (take (length text - 1) text)
    else None

-- whether a token defines a label with the name of a constant
abbrev pub is_taken_label : Constants → List ℕ → Bool
is_taken_label constants text =
    option_map_or (λ name. is_some (constant_named constants name)) (label_defined text) false

-- The words of the larger language. Some are kept for what it is to have.
abbrev pub words_of_definitions : List (List ℕ)
words_of_definitions =
    codes "const" ∷ codes "body" ∷ codes "end" ∷ codes "use" ∷ codes "include" ∷ []

abbrev pub words_of_places : List (List ℕ)
words_of_places =
    codes "to" ∷ codes "north" ∷ codes "east" ∷ codes "south" ∷ codes "west" ∷ []

abbrev pub is_among : List (List ℕ) → List ℕ → Bool
is_among words text = list_any (λ word. bytes_eq text word) words

-- no constant has the name of an opcode or of a number, or a word of either language
abbrev pub is_kept : List ℕ → Bool
is_kept text =
    is_reserved text || is_among words_of_definitions text || is_among words_of_places text

-- ---- numbers in the plain language

abbrev pub as_hex : List ℕ → Option ℕ
as_hex [] = None
as_hex (c ∷ digits) = if c == 36 then numeral 16 8 digits else None

abbrev pub as_number : List ℕ → Option ℕ
as_number text = option_or (number_named text) (option_or (numeral 10 8 text) (as_hex text))

-- such a number as a word
abbrev pub in_range : Option ℕ → Result ℕ ExpandErrorKind
in_range None = Err BadToken
in_range (Some n) = if nat_lt n (2 ^ 18) then Ok n else Err NumberRange

-- whether a token is the address of ports by a name: that of a side, or that of all four
abbrev pub names_ports : List ℕ → Bool
names_ports text = is_side text || bytes_eq text (codes "rdlu")
