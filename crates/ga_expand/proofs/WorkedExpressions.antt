-- Worked values of expressions, each worked out by hand.
use Rattle.std.proofs.Common.{◌≡◌, ℕ, ◌-◌, pos, negsuc, [], ◌∷◌, Ok, Err, Result, refl}
use Rattle.std.specs.Prelude.{codes}
use Rattle.ga_expand.specs.Arithmetic.{made_by}
use Rattle.ga_expand.specs.Constants.{Constants, constant_word}
use Rattle.ga_expand.specs.Expression.{behind_sign, inside, left_of, parted, right_of, value_of}
use Rattle.ga_expand.specs.declared.error.ExpandErrorKind.{ExpandErrorKind}
use Rattle.ga_expand.specs.declared.error.ExpandErrorKind.TheVariants.{BadToken, MixedSides, NumberRange}
use Rattle.ga_expand.specs.declared.value.Operand.{Operand}
use Rattle.ga_expand.specs.declared.value.Operand.TheVariants.{Number, Ports}

abbrev Value : Type 0
Value = Result Operand ExpandErrorKind

abbrev number : ℕ → Value
number n = Ok (Number (pos n))

-- the number n less than 0
abbrev below : ℕ → Value
below n = Ok (Number (negsuc (n - 1)))

abbrev ports : ℕ → Value
ports address = Ok (Ports address)

abbrev some_constants : Constants
some_constants =
    (codes "SIZE", Number (pos 8)) ∷ (codes "M", Number (pos 0x3FFFF))
    ∷ (codes "N", Number (negsuc 4)) ∷ []

-- ---- which operators bind first

-- `*` binds before `+`, and operators that bind alike go from left to right
products_first : ◌≡◌ {A = Value} (value_of some_constants (codes "1+SIZE*2-3-4")) (number 10)
unfolding value_of parted inside behind_sign left_of right_of made_by
products_first = refl

in_parentheses : ◌≡◌ {A = Value} (value_of [] (codes "(1+2)*(3+4)")) (number 21)
unfolding value_of parted inside behind_sign left_of right_of made_by
in_parentheses = refl

shifts_and_masks : ◌≡◌ {A = Value} (value_of some_constants (codes "1<<SIZE|$F0&M>>4")) (number 496)
unfolding value_of parted inside behind_sign left_of right_of made_by
shifts_and_masks = refl

in_order : ◌≡◌ {A = Value} (value_of some_constants (codes "100/10%4*3")) (number 6)
unfolding value_of parted inside behind_sign left_of right_of made_by
in_order = refl

-- signs between quotes are no operators
quoted_signs : ◌≡◌ {A = Value} (value_of [] (codes "'+'+'('*-1")) (number 3)
unfolding value_of parted inside behind_sign left_of right_of made_by
quoted_signs = refl

no_operand : ◌≡◌ {A = Value} (value_of [] (codes "5+")) (Err BadToken)
unfolding value_of parted inside behind_sign left_of right_of made_by
no_operand = refl

not_closed : ◌≡◌ {A = Value} (value_of [] (codes "(5+6")) (Err BadToken)
unfolding value_of parted inside behind_sign left_of right_of made_by
not_closed = refl

-- ---- signs

less_than_none : ◌≡◌ {A = Value} (value_of some_constants (codes "5-SIZE")) (below 3)
unfolding value_of parted inside behind_sign left_of right_of made_by
less_than_none = refl

less_than_none_between : ◌≡◌ {A = Value} (value_of some_constants (codes "1-2+3")) (number 2)
unfolding value_of parted inside behind_sign left_of right_of made_by
less_than_none_between = refl

sign_first : ◌≡◌ {A = Value} (value_of some_constants (codes "-3*2+1")) (below 5)
unfolding value_of parted inside behind_sign left_of right_of made_by
sign_first = refl

sign_behind_operator : ◌≡◌ {A = Value} (value_of some_constants (codes "2--3")) (number 5)
unfolding value_of parted inside behind_sign left_of right_of made_by
sign_behind_operator = refl

sign_of_a_name : ◌≡◌ {A = Value} (value_of some_constants (codes "-N")) (number 5)
unfolding value_of parted inside behind_sign left_of right_of made_by
sign_of_a_name = refl

sign_of_parentheses : ◌≡◌ {A = Value} (value_of some_constants (codes "-(3)*-(N)")) (below 15)
unfolding value_of parted inside behind_sign left_of right_of made_by
sign_of_parentheses = refl

-- a sign is in front of a number, a name or a parenthesis
two_signs : ◌≡◌ {A = Value} (value_of some_constants (codes "--5")) (Err BadToken)
unfolding value_of parted inside behind_sign left_of right_of made_by
two_signs = refl

negative_constant : ◌≡◌ {A = Value} (value_of some_constants (codes "N+6")) (number 1)
unfolding value_of parted inside behind_sign left_of right_of made_by
negative_constant = refl

-- ---- quotients and remainders, by the signs of both numbers

quotient : ◌≡◌ {A = Value} (value_of some_constants (codes "23/SIZE")) (number 2)
unfolding value_of parted inside behind_sign left_of right_of made_by
quotient = refl

quotient_of_negative : ◌≡◌ {A = Value} (value_of some_constants (codes "-23/SIZE")) (below 2)
unfolding value_of parted inside behind_sign left_of right_of made_by
quotient_of_negative = refl

quotient_by_negative : ◌≡◌ {A = Value} (value_of some_constants (codes "23/N")) (below 4)
unfolding value_of parted inside behind_sign left_of right_of made_by
quotient_by_negative = refl

quotient_of_two_negative : ◌≡◌ {A = Value} (value_of some_constants (codes "-23/N")) (number 4)
unfolding value_of parted inside behind_sign left_of right_of made_by
quotient_of_two_negative = refl

remainder : ◌≡◌ {A = Value} (value_of some_constants (codes "23%SIZE")) (number 7)
unfolding value_of parted inside behind_sign left_of right_of made_by
remainder = refl

remainder_of_negative : ◌≡◌ {A = Value} (value_of some_constants (codes "-23%SIZE")) (below 7)
unfolding value_of parted inside behind_sign left_of right_of made_by
remainder_of_negative = refl

remainder_by_negative : ◌≡◌ {A = Value} (value_of some_constants (codes "23%N")) (number 3)
unfolding value_of parted inside behind_sign left_of right_of made_by
remainder_by_negative = refl

remainder_of_two_negative : ◌≡◌ {A = Value} (value_of some_constants (codes "-23%N")) (below 3)
unfolding value_of parted inside behind_sign left_of right_of made_by
remainder_of_two_negative = refl

by_none : ◌≡◌ {A = Value} (value_of some_constants (codes "5/0")) (Err NumberRange)
unfolding value_of parted inside behind_sign left_of right_of made_by
by_none = refl

remainder_by_none : ◌≡◌ {A = Value} (value_of some_constants (codes "5%(3-3)")) (Err NumberRange)
unfolding value_of parted inside behind_sign left_of right_of made_by
remainder_by_none = refl

-- `%` is in front of binary digits where an operand begins, and else an operator
binary_digits : ◌≡◌ {A = Value} (value_of some_constants (codes "%1011%%11")) (number 2)
unfolding value_of parted inside behind_sign left_of right_of made_by
binary_digits = refl

sign_of_binary_digits : ◌≡◌ {A = Value} (value_of some_constants (codes "-%101")) (below 5)
unfolding value_of parted inside behind_sign left_of right_of made_by
sign_of_binary_digits = refl

remainder_by_digits : ◌≡◌ {A = Value} (value_of some_constants (codes "7%101")) (number 7)
unfolding value_of parted inside behind_sign left_of right_of made_by
remainder_by_digits = refl

-- ---- shifts, and bits in two's complement

shift_left_of_negative : ◌≡◌ {A = Value} (value_of some_constants (codes "-3<<2")) (below 12)
unfolding value_of parted inside behind_sign left_of right_of made_by
shift_left_of_negative = refl

-- rounded down
shift_right_of_negative : ◌≡◌ {A = Value} (value_of some_constants (codes "-7>>1")) (below 4)
unfolding value_of parted inside behind_sign left_of right_of made_by
shift_right_of_negative = refl

longest_shift : ◌≡◌ {A = Value} (value_of some_constants (codes "-1>>17")) (below 1)
unfolding value_of parted inside behind_sign left_of right_of made_by
longest_shift = refl

long_shift : ◌≡◌ {A = Value} (value_of some_constants (codes "1<<18")) (Err NumberRange)
unfolding value_of parted inside behind_sign left_of right_of made_by
long_shift = refl

shift_by_negative : ◌≡◌ {A = Value} (value_of some_constants (codes "1<<N")) (Err NumberRange)
unfolding value_of parted inside behind_sign left_of right_of made_by
shift_by_negative = refl

-- ..1110 and 0111
and_of_negative : ◌≡◌ {A = Value} (value_of some_constants (codes "-2&7")) (number 6)
unfolding value_of parted inside behind_sign left_of right_of made_by
and_of_negative = refl

-- ..11011 and ..11101
and_of_two_negative : ◌≡◌ {A = Value} (value_of some_constants (codes "N&-3")) (below 7)
unfolding value_of parted inside behind_sign left_of right_of made_by
and_of_two_negative = refl

-- ..11000 and 00011
or_of_negative : ◌≡◌ {A = Value} (value_of some_constants (codes "-8|3")) (below 5)
unfolding value_of parted inside behind_sign left_of right_of made_by
or_of_negative = refl

-- ..11010 and ..11100
or_of_two_negative : ◌≡◌ {A = Value} (value_of some_constants (codes "-6|-4")) (below 2)
unfolding value_of parted inside behind_sign left_of right_of made_by
or_of_two_negative = refl

-- ---- what fits: a part 32 bits with a sign, and a constant 18 bits

over_a_word : ◌≡◌ {A = Value} (value_of some_constants (codes "M+1")) (Err NumberRange)
unfolding value_of parted inside behind_sign left_of right_of made_by
over_a_word = refl

over_a_word_between : ◌≡◌ {A = Value} (value_of some_constants (codes "M+1-1")) (number 262143)
unfolding value_of parted inside behind_sign left_of right_of made_by
over_a_word_between = refl

lowest : ◌≡◌ {A = Value} (value_of some_constants (codes "-131072")) (below 131072)
unfolding value_of parted inside behind_sign left_of right_of made_by
lowest = refl

too_low : ◌≡◌ {A = Value} (value_of some_constants (codes "-131073")) (Err NumberRange)
unfolding value_of parted inside behind_sign left_of right_of made_by
too_low = refl

too_low_between : ◌≡◌ {A = Value} (value_of some_constants (codes "-200000+100000")) (below 100000)
unfolding value_of parted inside behind_sign left_of right_of made_by
too_low_between = refl

largest_part : ◌≡◌ {A = Value} (value_of some_constants (codes "65536*32767>>13")) (number 262136)
unfolding value_of parted inside behind_sign left_of right_of made_by
largest_part = refl

too_large_a_part : ◌≡◌ {A = Value} (value_of some_constants (codes "65536*32768>>14"))
    (Err NumberRange)
unfolding value_of parted inside behind_sign left_of right_of made_by
too_large_a_part = refl

lowest_part : ◌≡◌ {A = Value} (value_of some_constants (codes "-65536*32768>>14")) (below 131072)
unfolding value_of parted inside behind_sign left_of right_of made_by
lowest_part = refl

opposite_of_lowest_part : ◌≡◌ {A = Value} (value_of some_constants (codes "-(-65536*32768)>>14"))
    (Err NumberRange)
unfolding value_of parted inside behind_sign left_of right_of made_by
opposite_of_lowest_part = refl

too_large_a_number : ◌≡◌ {A = Value} (value_of some_constants (codes "262144-1")) (Err NumberRange)
unfolding value_of parted inside behind_sign left_of right_of made_by
too_large_a_number = refl

word_of_a_negative : constant_word (Number (negsuc 4)) ≡ 0x3FFFB
word_of_a_negative = refl

word_of_the_lowest : constant_word (Number (negsuc 131071)) ≡ 0x20000
word_of_the_lowest = refl

word_of_the_largest : constant_word (Number (pos 0x3FFFF)) ≡ 0x3FFFF
word_of_the_largest = refl

-- ---- `|` and sides

abbrev some_sides : Constants
some_sides =
    (codes "P", Ports 0x1D5) ∷ (codes "RL", Ports 0x1F5) ∷ (codes "MASK", Number (pos 0x111))
    ∷ (codes "A", Number (pos 0x145)) ∷ (codes "B", Number (pos 0x115)) ∷ []

constant_and_side : ◌≡◌ {A = Value} (value_of some_sides (codes "P|down")) (ports 0x195)
unfolding value_of parted inside behind_sign left_of right_of made_by
constant_and_side = refl

several_and_side : ◌≡◌ {A = Value} (value_of some_sides (codes "RL|up")) (ports 0x1E5)
unfolding value_of parted inside behind_sign left_of right_of made_by
several_and_side = refl

sides_in_parentheses : ◌≡◌ {A = Value} (value_of [] (codes "(right|left)|rdlu")) (ports 0x1A5)
unfolding value_of parted inside behind_sign left_of right_of made_by
sides_in_parentheses = refl

number_in_front : ◌≡◌ {A = Value} (value_of [] (codes "5|right|down")) (Err MixedSides)
unfolding value_of parted inside behind_sign left_of right_of made_by
number_in_front = refl

number_behind : ◌≡◌ {A = Value} (value_of some_sides (codes "P|MASK")) (Err MixedSides)
unfolding value_of parted inside behind_sign left_of right_of made_by
number_behind = refl

-- a number in digits, or one that another operator makes, is no address of ports
digits : ◌≡◌ {A = Value} (value_of [] (codes "$115|$145")) (number 0x155)
unfolding value_of parted inside behind_sign left_of right_of made_by
digits = refl

computed : ◌≡◌ {A = Value} (value_of some_sides (codes "P+0|down")) (Err MixedSides)
unfolding value_of parted inside behind_sign left_of right_of made_by
computed = refl

less_a_side : ◌≡◌ {A = Value} (value_of some_sides (codes "P-left")) (number 0x60)
unfolding value_of parted inside behind_sign left_of right_of made_by
less_a_side = refl

opposite_of_a_side : ◌≡◌ {A = Value} (value_of some_sides (codes "-P|down")) (Err MixedSides)
unfolding value_of parted inside behind_sign left_of right_of made_by
opposite_of_a_side = refl

-- nor is a constant that is such a number, even that of a port
constants_of_digits : ◌≡◌ {A = Value} (value_of some_sides (codes "A|B")) (number 0x155)
unfolding value_of parted inside behind_sign left_of right_of made_by
constants_of_digits = refl
