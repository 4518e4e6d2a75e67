-- The arithmetic of words of 18 bits, each as its number below 2 ^ 18.
use Rattle.std.specs.Prelude.{◌==◌, ℕ, zero, suc, ◌+◌, ◌-◌, ◌*◌, ◌/◌, ◌%◌, ◌^◌, List, [], ◌∷◌, Bool, nat_le, if◌then◌else◌}
use Rattle.std.specs.Int.{bit_at, from_bool}

-- the low bits of a number, as many as `width`, the highest first: a word is `bits 18` of its
-- number
unfoldable pub bits : ℕ → ℕ → List ℕ
bits zero n = []
bits (suc width) n = bit_at n width ∷ bits width n

-- the sum of two words; a carry out of bit 17 is lost
abbrev pub word_sum : ℕ → ℕ → ℕ
word_sum a b = (a + b) % 2 ^ 18

-- the sum of two words and a carry, and the carry out of bit 17
abbrev pub carry_sum : ℕ → ℕ → Bool → ℕ × Bool
carry_sum a b carry = let sum = a + b + from_bool carry in (sum % 2 ^ 18, nat_le (2 ^ 18) sum)

-- each bit turned over
abbrev pub word_not : ℕ → ℕ
word_not a = 2 ^ 18 - 1 - a

-- the word shifted left by one; bit 17 is lost
abbrev pub word_twice : ℕ → ℕ
word_twice a = 2 * a % 2 ^ 18

-- the word shifted right by one; bit 17 is kept, as the sign of a number in two's complement
abbrev pub word_half : ℕ → ℕ
word_half a = a / 2 + a / 2 ^ 17 * 2 ^ 17

-- A multiply step gives T and A: S is added to T if the lowest bit of A is 1. Then the sum and A,
-- as one number of 36 bits, shift right by one, and bit 17 of the sum is kept.
abbrev pub multiply_step : ℕ → ℕ → ℕ → ℕ × ℕ
multiply_step t s a =
    let sum = if a % 2 == 1 then word_sum t s else t in
    (word_half sum, a / 2 + sum % 2 * 2 ^ 17)

-- A multiply step with a carry gives T, A and the carry: S and the carry are added to T if the
-- lowest bit of A is 1, and else the carry stays. Then the sum and A shift as in the step without.
abbrev pub multiply_step_carry : ℕ → ℕ → ℕ → Bool → ℕ × ℕ × Bool
multiply_step_carry t s a carry =
    let sum = if a % 2 == 1 then carry_sum t s carry else (t, carry) in
    (word_half sum.0, a / 2 + sum.0 % 2 * 2 ^ 17, sum.1)
