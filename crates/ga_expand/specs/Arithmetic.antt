-- What operators make of whole numbers. Each result fits 32 bits with a sign, as the numbers do.
use Rattle.std.specs.Prelude.{ℕ, zero, suc, ◌+ℤ◌, ◌-ℤ◌, ◌*ℤ◌, ◌^◌, Bool, ℤ, pos, negsuc, neg_ℤ, int_div, int_rem, nat_le, nat_lt, Option, Some, None, if◌then◌else◌}
use Rattle.std.specs.Int.{int_bit_and, int_bit_or, int_shr, w32}
use Rattle.ga_expand.specs.declared.operator.Operator.{Operator}
use Rattle.ga_expand.specs.declared.operator.Operator.TheVariants.{Or, And, ShiftLeft, ShiftRight, Plus, Minus, Times, Divide, Remainder}

-- whether a whole number fits 32 bits with a sign: -2 ^ 31 to 2 ^ 31 - 1
abbrev pub fits : ℤ → Bool
fits (pos n) = nat_lt n (2 ^ 31)
fits (negsuc n) = nat_lt n (2 ^ 31)

abbrev pub if_fits : ℤ → Option ℤ
if_fits number = if fits number then Some number else None

abbrev pub opposite : ℤ → Option ℤ
opposite number = if_fits (neg_ℤ number)

-- by how many bits a shift may be: 0 to 17
abbrev pub shift_by : ℤ → Option ℕ
shift_by (pos n) = if nat_le n 17 then Some n else None
shift_by (negsuc n) = None

abbrev pub shifted_left : ℤ → Option ℕ → Option ℤ
shifted_left number None = None
shifted_left number (Some bits) = if_fits (number *ℤ pos (2 ^ bits))

-- a number divided by a power of two, rounded down
abbrev pub shifted_right : ℤ → Option ℕ → Option ℤ
shifted_right number None = None
shifted_right number (Some bits) = Some (int_shr number bits)

-- a number divided by another, rounded towards zero, if that isn't 0
abbrev pub quotient : ℤ → ℤ → Option ℤ
quotient left (pos zero) = None
quotient left (pos (suc n)) = if_fits (int_div left (pos (suc n)))
quotient left (negsuc n) = if_fits (int_div left (negsuc n))

-- what is left of a number by such a quotient: zero, or a number with the sign of the first one
abbrev pub remainder : ℤ → ℤ → Option ℤ
remainder left (pos zero) = None
remainder left (pos (suc n)) = Some (int_rem left (pos (suc n)))
remainder left (negsuc n) = Some (int_rem left (negsuc n))

-- What an operator makes of two whole numbers, if there is a result that fits. `&` and `|` are of
-- their bits in two's complement.
unfoldable pub made_by : Operator → ℤ → ℤ → Option ℤ
made_by Or left right = Some (int_bit_or w32 left right)
made_by And left right = Some (int_bit_and w32 left right)
made_by ShiftLeft left right = shifted_left left (shift_by right)
made_by ShiftRight left right = shifted_right left (shift_by right)
made_by Plus left right = if_fits (left +ℤ right)
made_by Minus left right = if_fits (left -ℤ right)
made_by Times left right = if_fits (left *ℤ right)
made_by Divide left right = quotient left right
made_by Remainder left right = remainder left right
