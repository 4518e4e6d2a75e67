-- The definitions at worked values.
use Rattle.std.proofs.Common.{◌≡◌, ℕ, true, false, zero, suc, ◌∷◌, [], Ok, Err, refl}
use Rattle.std.specs.Prelude.{codes}
use Rattle.ga_word.specs.Word.{bits, carry_sum, multiply_step, multiply_step_carry, word_half, word_not, word_sum, word_twice}
use Rattle.ga_word.specs.Hex.{hex_digits, is_word_text}
use Rattle.ga_word.specs.Text.{text_of_words, tokens, words_of_text}

bits_of_6 : bits 4 6 ≡ 0 ∷ 1 ∷ 1 ∷ 0 ∷ []
unfolding bits
bits_of_6 = refl

-- a sum wraps, half keeps the sign, zero inverted has all bits, and twice loses bit 17
arithmetic : (word_sum 0x3FFFF 1 ≡ 0)
    × (word_half 0x20000 ≡ 0x30000)
    × (word_not 0 ≡ 0x3FFFF)
    × (word_twice 0x20001 ≡ 2)
arithmetic = (refl, refl, refl, refl)

-- multiplication steps of T and A with S, as many as counted
abbrev steps : ℕ → ℕ → ℕ × ℕ → ℕ × ℕ
steps zero s ta = ta
steps (suc n) s ta = steps n s (multiply_step ta.0 s ta.1)

first_step : steps 1 3 (0, 5) ≡ (0x00001, 0x20002)
first_step = refl

-- eighteen steps multiply 3 by 5
eighteen_steps : steps 18 3 (0, 5) ≡ (0x00000, 0x0000F)
eighteen_steps = refl

-- a sum has no carry at 3FFFF, and one from 40000 on; the carry that comes in is added
carries : (carry_sum 0x3FFFF 0 false ≡ (0x3FFFF, false))
    × (carry_sum 0x3FFFF 1 false ≡ (0, true))
    × (carry_sum 0x3FFFF 0 true ≡ (0, true))
    × (carry_sum 0x3FFFF 0x3FFFF true ≡ (0x3FFFF, true))
carries = (refl, refl, refl, refl)

-- a multiply step keeps the carry if it adds nothing, and else computes a new one
steps_with_carry : (multiply_step_carry 0x3FFFF 1 1 false ≡ (0, 0, true))
    × (multiply_step_carry 0 0 1 true ≡ (0, 0x20000, false))
    × (multiply_step_carry 5 7 2 true ≡ (2, 0x20001, true))
    × (multiply_step_carry 5 7 2 false ≡ (2, 0x20001, false))
steps_with_carry = (refl, refl, refl, refl)

text_of_one : text_of_words (0x2C9B2 ∷ []) ≡ codes "2C9B2\n"
unfolding hex_digits
text_of_one = refl

-- one word; the second is too short; 7 is too large a first digit
texts : (words_of_text (codes "2C9B2\n") ≡ Ok (0x2C9B2 ∷ []))
    × (words_of_text (codes "04A12 5") ≡ Err 1)
    × (words_of_text (codes "70000") ≡ Err 0)
unfolding tokens is_word_text
texts = (refl, refl, refl)
