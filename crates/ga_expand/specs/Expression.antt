-- The values of expressions: numbers and names of constants, operators between them, `-` in front
-- of them, and parentheses. An expression is one token.
use Rattle.std.specs.Prelude.{◌==◌, ◌&&◌, ℕ, Bool, zero, suc, ◌+◌, ◌-◌, ◌^◌, true, false, ℤ, pos, negsuc, List, [], ◌∷◌, drop, length, nat_le, nat_lt, not, option_map, slice_index_or, Option, Some, None, Result, Ok, Err, take, if◌then◌else◌}
use Rattle.std.specs.Option.{is_some, option_map_or, option_or}
use Rattle.ga_expand.specs.Arithmetic.{made_by, opposite}
use Rattle.ga_expand.specs.Constants.{Constants, as_number, constant_named, in_range, names_ports, number_of}
use Rattle.ga_expand.specs.Literal.{digits_or_character}
use Rattle.ga_expand.specs.Sides.{as_sides, ports_of_both}
use Rattle.ga_expand.specs.declared.error.ExpandErrorKind.{ExpandErrorKind}
use Rattle.ga_expand.specs.declared.error.ExpandErrorKind.TheVariants.{BadToken, MixedSides, NumberRange}
use Rattle.ga_expand.specs.declared.expression.Before.{Before}
use Rattle.ga_expand.specs.declared.expression.Parting.{Parting}
use Rattle.ga_expand.specs.declared.operator.Operator.{Operator}
use Rattle.ga_expand.specs.declared.operator.Operator.TheVariants.{Or, And, ShiftLeft, ShiftRight, Plus, Minus, Times, Divide, Remainder}
use Rattle.ga_expand.specs.declared.value.Operand.{Operand}
use Rattle.ga_expand.specs.declared.value.Operand.TheVariants.{Number, Ports}

-- ---- operators

-- `|`, `&`, `<<`, `>>`, `+`, `-`, `*`, `/` and `%`, if a text begins with one
abbrev pub doubled : ℕ → List ℕ → Option Operator
doubled c [] = None
doubled c (next ∷ rest) =
    if (c == 60) && (next == 60) then Some ShiftLeft
    else if (c == 62) && (next == 62) then Some ShiftRight else None

abbrev pub operator_at : List ℕ → Option Operator
operator_at [] = None
operator_at (c ∷ rest) =
    if c == 124 then Some Or else if c == 38 then Some And else if c == 43 then Some Plus
    else if c == 45 then Some Minus else if c == 42 then Some Times
    else if c == 47 then Some Divide else if c == 37 then Some Remainder else doubled c rest

-- how many bytes it has
abbrev pub width : Operator → ℕ
width ShiftLeft = 2
width ShiftRight = 2
width o = 1

-- how strongly it binds
abbrev pub strength : Operator → ℕ
strength Or = 0
strength And = 1
strength ShiftLeft = 2
strength ShiftRight = 2
strength Plus = 3
strength Minus = 3
strength Times = 4
strength Divide = 4
strength Remainder = 4

-- ---- operands

-- An operand is a whole number, or the address of ports that is written as one: by names of sides,
-- by that of a constant that is one, or by two of these with `|` between them. A number in digits
-- is none, nor is the result of another operator.
abbrev pub plain_value : Bool → ℕ → Operand
plain_value true n = Ports n
plain_value false n = Number (pos n)

-- a result of an operator, if it fits
abbrev pub calculated : Option ℤ → Result Operand ExpandErrorKind
calculated None = Err NumberRange
calculated (Some number) = Ok (Number number)

abbrev pub as_ports : ℕ → Result Operand ExpandErrorKind
as_ports address = if nat_lt address (2 ^ 18) then Ok (Ports address) else Err NumberRange

abbrev pub ports_of : Operand → Option ℕ
ports_of (Number number) = None
ports_of (Ports address) = Some address

-- What `|` makes of two numbers, by the addresses of ports that they are: of two addresses that of
-- all their ports, and of two other numbers the bits that one of them has. It doesn't join an
-- address and another number.
abbrev pub joined_by : Option ℕ → Option ℕ → ℤ → ℤ → Result Operand ExpandErrorKind
joined_by (Some one) (Some other) left right = as_ports (ports_of_both one other)
joined_by None None left right = calculated (made_by Or left right)
joined_by one other left right = Err MixedSides

abbrev pub joined : Operand → Operand → Result Operand ExpandErrorKind
joined left right =
    joined_by (ports_of left) (ports_of right) (number_of left) (number_of right)

-- What an operator makes of two operands. To all but `|` an address is a number as others are.
abbrev pub combined : Operator → Operand → Operand → Result Operand ExpandErrorKind
combined Or left right = joined left right
combined o left right = calculated (made_by o (number_of left) (number_of right))

-- an operand with `-` in front of it
abbrev pub negated : Operand → Result Operand ExpandErrorKind
negated operand = calculated (opposite (number_of operand))

-- ---- where an expression is parted

-- What is known in front of a byte: how many parentheses are open, whether an operand is there, so
-- that an operator may follow, and how many more bytes belong to a character between quotes. Where
-- no operand is there, one begins: `-` is its sign, and `%` is in front of binary digits.
abbrev pub operator_here : Before → List ℕ → Option Operator
operator_here before text =
    if before.operand && (before.parentheses == 0) && (before.quoted == 0) then operator_at text
    else None

abbrev pub behind : Before → List ℕ → Before
behind before [] = before
behind before (c ∷ rest) =
    if nat_lt 0 before.quoted then record before { quoted = before.quoted - 1 }
    else if c == 40 then record before { parentheses = before.parentheses + 1; operand = false }
    else if c == 41 then record before { parentheses = before.parentheses - 1; operand = true }
    else if c == 39 then record before { operand = true; quoted = 2 }
    else if c == 45 then record before { operand = false }
    else record before { operand = not (is_some (operator_here before (c ∷ rest))) }

-- the operator by which a text is parted so far, and the one that begins here, before this many
-- bytes
abbrev pub chosen : Option Parting → Option Operator → ℕ → Option Parting
chosen best None left = best
chosen None (Some o) left = Some (record { operator = o; left = left })
chosen (Some best) (Some o) left =
    if nat_le (strength o) (strength best.operator)
    then Some (record { operator = o; left = left }) else Some best

-- The last one of the operators that bind least, of those outside parentheses and quotes that have
-- an operand in front of them.
abbrev pub parted_from : Before → Option Parting → List ℕ → Option Parting
parted_from before best [] = best
parted_from before best (c ∷ rest) =
    parted_from (behind before (c ∷ rest))
    (chosen best (operator_here before (c ∷ rest)) (suc (length rest))) rest

-- an expression has at most 64 bytes
abbrev pub is_long : List ℕ → Bool
is_long text = nat_lt 64 (length text)

-- an expression is parted there
unfoldable pub parted : List ℕ → Option Parting
parted text =
    if is_long text then None
    else parted_from (record { parentheses = 0; operand = false; quoted = 0 }) None text

-- what is in front of an operator, and what is behind it
unfoldable pub left_of : List ℕ → Parting → List ℕ
left_of text parting = take (length text - parting.left) text

unfoldable pub right_of : List ℕ → Parting → List ℕ
right_of text parting = drop (length text - parting.left + width parting.operator) text

-- what is between a parenthesis with which a text begins and one with which it ends
unfoldable pub inside : List ℕ → Option (List ℕ)
inside [] = None
inside (c ∷ rest) =
    if (c == 40) && (slice_index_or rest (length rest - 1) 0 == 41) && not (is_long (c ∷ rest))
    then Some (take (length rest - 1) rest) else None

-- the operand behind a `-` with which a text begins, which begins with no other `-`
unfoldable pub behind_sign : List ℕ → Option (List ℕ)
behind_sign [] = None
behind_sign (c ∷ operand) =
    if (c == 45) && not (slice_index_or operand 0 0 == 45) && not (is_long (c ∷ operand))
    then Some operand else None

-- ---- values

abbrev pub applied : Operator → Result Operand ExpandErrorKind → Result Operand ExpandErrorKind
    → Result Operand ExpandErrorKind
applied o (Ok left) (Ok right) = combined o left right
applied o (Ok left) (Err kind) = Err kind
applied o (Err kind) right = Err kind

abbrev pub opposite_of : Result Operand ExpandErrorKind → Result Operand ExpandErrorKind
opposite_of (Ok operand) = negated operand
opposite_of (Err kind) = Err kind

-- a number in the plain language
abbrev pub plain_by : Bool → Result ℕ ExpandErrorKind → Result Operand ExpandErrorKind
plain_by is_ports (Ok n) = Ok (plain_value is_ports n)
plain_by is_ports (Err kind) = Err kind

abbrev pub plain_number : List ℕ → Result Operand ExpandErrorKind
plain_number text = plain_by (names_ports text) (in_range (as_number text))

-- the value of the constant with this name, or a number in the plain language
abbrev pub plain_operand : Constants → List ℕ → Result Operand ExpandErrorKind
plain_operand constants text = option_map_or Ok (constant_named constants text) (plain_number text)

-- an operand of a form that the plain language lacks: binary digits, a character, or several sides
abbrev pub form_of : List ℕ → Option Operand
form_of text =
    option_or (option_map (plain_value false) (digits_or_character text))
    (option_map (plain_value true) (as_sides text))

-- The value of a text by those of its parts: of the two beside an operator, of what is in
-- parentheses, or of what is behind a sign. A text without parts is a number of the plain language,
-- or the name of a constant.
abbrev pub by_parts : Constants → List ℕ → (List ℕ → Result Operand ExpandErrorKind)
    → Option Parting → Option (List ℕ) → Option (List ℕ) → Result Operand ExpandErrorKind
by_parts constants text value (Some parting) within signed =
    applied parting.operator (value (left_of text parting)) (value (right_of text parting))
by_parts constants text value None (Some within) signed = value within
by_parts constants text value None None (Some operand) = opposite_of (value operand)
by_parts constants text value None None None = plain_operand constants text

-- the value of an expression of at most this many levels
abbrev pub value_within : ℕ → Constants → List ℕ → Result Operand ExpandErrorKind
value_within zero constants text = Err BadToken
value_within (suc levels) constants text =
    option_map_or Ok (form_of text) (by_parts constants text (value_within levels constants)
    (parted text) (inside text) (behind_sign text))

-- The number of a constant fits 18 bits, with a sign or without one: -2 ^ 17 to 2 ^ 18 - 1.
abbrev pub fits_word : ℤ → Bool
fits_word (pos n) = nat_lt n (2 ^ 18)
fits_word (negsuc n) = nat_lt n (2 ^ 17)

abbrev pub as_constant : Operand → Result Operand ExpandErrorKind
as_constant operand = if fits_word (number_of operand) then Ok operand else Err NumberRange

abbrev pub constant_by : Result Operand ExpandErrorKind → Result Operand ExpandErrorKind
constant_by (Ok operand) = as_constant operand
constant_by (Err kind) = Err kind

-- The value of a constant that a token writes: in a form of either language, as the name of a
-- constant, or as an expression of at most 64 levels.
unfoldable pub value_of : Constants → List ℕ → Result Operand ExpandErrorKind
value_of constants text = constant_by (value_within 64 constants text)
