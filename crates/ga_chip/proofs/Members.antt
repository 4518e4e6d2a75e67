-- Which nodes are in a set, when a bit of it was changed.
use Rattle.std.proofs.Common.{◌≡◌, ◌≢◌, ℕ, zero, suc, [], ◌∷◌, ◌+◌, ◌-◌, ◌*◌, ◌/◌, ◌%◌, ◌^◌, ◌<◌, ◌≤◌, ◌==◌, ◌⊎◌, inl, inr, true, false, List, length, set, get_or, refl, sym, ap, ap₂, ◌∙◌, arith}
use Rattle.std.specs.Prelude.{if◌then◌else◌}
use Rattle.std.specs.Int.{bit_at, trailing_zeros, w64}
use Rattle.std.proofs.lemmas.Bool.{cases_lt}
use Rattle.std.proofs.lemmas.Nat.Bits.{bit_at-zero, bit_at-trailing_zeros, bit_at_above, bit_at_ones}
use Rattle.std.proofs.Math.Nat.{div-div-eq-div-mul, div-le_self}
use Rattle.std.proofs.lemmas.Nat.{pow-add}
use Rattle.ga_chip.specs.declared.node_set.NodeSet.{NodeSet}
use Rattle.ga_chip.specs.inner.Awake.{is_in}
use Rattle.ga_chip.proofs.Bits.{bit_changed}

-- a set whose word has one other bit
pub changed : (words : List ℕ) (place other word bit : ℕ) → place / 64 < length words
    → bit_at word (place % 64) ≡ bit
    → ((i : ℕ) → i < 64 → i ≢ place % 64 → bit_at word i ≡ bit_at (get_or words (place / 64) 0) i)
    → is_in other (record { words = set words (place / 64) word })
    ≡ (if other == place then bit == 1 else is_in other (record { words = words }))
unfolding is_in
changed words place other word bit within here others =
    bit_changed words place other word bit within here others

-- the set of all
pub all_in : (place : ℕ) → place < 144 → is_in place
    (record { words = 18446744073709551615 ∷ 18446744073709551615 ∷ 65535 ∷ [] }) ≡ true
unfolding is_in
all_in place below = ap (λ n. n == 1) (by (place / 64) refl)
  where
    by : (word : ℕ) → place / 64 ≡ word
        → bit_at (get_or (18446744073709551615 ∷ 18446744073709551615 ∷ 65535 ∷ []) word 0)
        (place % 64) ≡ 1
    by zero e = bit_at_ones 64 (place % 64) (omega arith)
    by (suc zero) e = bit_at_ones 64 (place % 64) (omega arith)
    by (suc (suc zero)) e = bit_at_ones 16 (place % 64) (omega arith)
    by (suc (suc (suc word))) e = absurd (omega arith)

-- a bit of a word that was shifted
bit_from : (n k i : ℕ) → bit_at (n / 2 ^ k) i ≡ bit_at n (k + i)
bit_from n k i =
    ap (λ m. m % 2) (div-div-eq-div-mul n (2 ^ k) (2 ^ i) ∙ ap (λ p. n / p) (sym (pow-add 2 k i)))

none_from : (n k j : ℕ) → n / 2 ^ k ≡ 0 → k ≤ j → bit_at n j ≡ 0
none_from n k j e h =
    let there : k + (j - k) ≡ j = omega arith in
    ap (bit_at n) (sym there) ∙ sym (bit_from n k (j - k)) ∙ ap (λ m. bit_at m (j - k)) e
    ∙ bit_at-zero (j - k)

-- no bit of a word is set from one place up to the lowest that is
zeros_from : (n k : ℕ) → n < 2 ^ 64 → 0 < n / 2 ^ k → (k + trailing_zeros w64 (n / 2 ^ k) < 64)
    × ((j : ℕ) → k ≤ j → j < k + trailing_zeros w64 (n / 2 ^ k) → bit_at n j ≡ 0)
zeros_from n k fits some = (within, below)
  where
    first : (trailing_zeros w64 (n / 2 ^ k) < 64)
        × (bit_at (n / 2 ^ k) (trailing_zeros w64 (n / 2 ^ k)) ≡ 1)
        × ((i : ℕ) → i < trailing_zeros w64 (n / 2 ^ k) → bit_at (n / 2 ^ k) i ≡ 0)
    first = bit_at-trailing_zeros w64 (n / 2 ^ k) some (omega (arith, div-le_self n (2 ^ k)))

    past : 64 ≤ k + trailing_zeros w64 (n / 2 ^ k) → ⊥
    past h =
        let one : ◌≡◌ {A = ℕ} 0 1 =
        sym (bit_at_above n 64 (k + trailing_zeros w64 (n / 2 ^ k)) fits h)
        ∙ sym (bit_from n k (trailing_zeros w64 (n / 2 ^ k))) ∙ first.1 in cc

    within : k + trailing_zeros w64 (n / 2 ^ k) < 64
    within = omega (arith, past)

    below : (j : ℕ) → k ≤ j → j < k + trailing_zeros w64 (n / 2 ^ k) → bit_at n j ≡ 0
    below j from_ to =
        let there : k + (j - k) ≡ j = omega arith in
        ap (bit_at n) (sym there) ∙ sym (bit_from n k (j - k)) ∙ first.2 (j - k) (omega arith)

-- no node of a word from a place on
pub none_left : (set : NodeSet) (from other : ℕ)
    → get_or set.words (from / 64) 0 / 2 ^ (from % 64) ≡ 0 → from ≤ other
    → other < (from / 64 + 1) * 64 → is_in other set ≡ false
unfolding is_in
none_left set from other e h below =
    let word : other / 64 ≡ from / 64 = omega arith in
    let bit : from % 64 ≤ other % 64 = omega arith in
    ap (λ n. n == 1) (ap (λ i. bit_at (get_or set.words i 0) (other % 64)) word
    ∙ none_from (get_or set.words (from / 64) 0) (from % 64) (other % 64) e bit)

-- nor up to the lowest
pub none_before : (set : NodeSet) (from other : ℕ) → get_or set.words (from / 64) 0 < 2 ^ 64
    → 0 < get_or set.words (from / 64) 0 / 2 ^ (from % 64) → from ≤ other
    → other < from + trailing_zeros w64 (get_or set.words (from / 64) 0 / 2 ^ (from % 64))
    → is_in other set ≡ false
unfolding is_in
none_before set from other fits some h below =
    let zeros = zeros_from (get_or set.words (from / 64) 0) (from % 64) fits some in
    let within : from % 64 + trailing_zeros w64 (get_or set.words (from / 64) 0 / 2 ^ (from % 64))
    < 64 = zeros.0 in
    let word : other / 64 ≡ from / 64 = omega arith in
    let bit : from % 64 ≤ other % 64 = omega arith in
    let bound : other % 64 < from % 64
    + trailing_zeros w64 (get_or set.words (from / 64) 0 / 2 ^ (from % 64)) = omega arith in
    ap (λ n. n == 1) (ap (λ i. bit_at (get_or set.words i 0) (other % 64)) word
    ∙ zeros.1 (other % 64) bit bound)

-- the same of a whole word
pub none_left_whole : (set : NodeSet) (at other : ℕ) → get_or set.words at 0 ≡ 0 → at * 64 ≤ other
    → other < (at + 1) * 64 → is_in other set ≡ false
unfolding is_in
none_left_whole set at other e h below =
    let word : other / 64 ≡ at = omega arith in
    ap (λ n. n == 1) (ap (λ i. bit_at (get_or set.words i 0) (other % 64)) word
    ∙ ap (λ m. bit_at m (other % 64)) e ∙ bit_at-zero (other % 64))

pub none_before_whole : (set : NodeSet) (at other : ℕ) → get_or set.words at 0 < 2 ^ 64
    → 0 < get_or set.words at 0 → at * 64 ≤ other
    → other < at * 64 + trailing_zeros w64 (get_or set.words at 0) → is_in other set ≡ false
unfolding is_in
none_before_whole set at other fits some h below =
    let first = bit_at-trailing_zeros w64 (get_or set.words at 0) some fits in
    let within : trailing_zeros w64 (get_or set.words at 0) < 64 = first.0 in
    let word : other / 64 ≡ at = omega arith in
    let bound : other % 64 < trailing_zeros w64 (get_or set.words at 0) = omega arith in
    ap (λ n. n == 1) (ap (λ i. bit_at (get_or set.words i 0) (other % 64)) word
    ∙ first.2 (other % 64) bound)

-- a node that is no earlier one is at the word or behind it
pub none_yet : (set : NodeSet) (from at other : ℕ)
    → ((earlier : ℕ) → from ≤ earlier → earlier < at * 64 → is_in earlier set ≡ false)
    → (at * 64 ≤ other → is_in other set ≡ false) → from ≤ other → is_in other set ≡ false
none_yet set from at other before behind h = by (cases_lt other (at * 64))
  where
    by : (other < at * 64) ⊎ (at * 64 ≤ other) → is_in other set ≡ false
    by (inl earlier) = before other h earlier
    by (inr later) = behind later

-- the lowest is in the set
pub found_from : (set : NodeSet) (from : ℕ) → get_or set.words (from / 64) 0 < 2 ^ 64
    → 0 < get_or set.words (from / 64) 0 / 2 ^ (from % 64)
    → is_in (from + trailing_zeros w64 (get_or set.words (from / 64) 0 / 2 ^ (from % 64))) set
    ≡ true
unfolding is_in
found_from set from fits some =
    let zeros = zeros_from (get_or set.words (from / 64) 0) (from % 64) fits some in
    let within : from % 64 + trailing_zeros w64 (get_or set.words (from / 64) 0 / 2 ^ (from % 64))
    < 64 = zeros.0 in
    let word : (from + trailing_zeros w64 (get_or set.words (from / 64) 0 / 2 ^ (from % 64))) / 64
    ≡ from / 64 = omega arith in
    let bit : (from + trailing_zeros w64 (get_or set.words (from / 64) 0 / 2 ^ (from % 64))) % 64
    ≡ from % 64 + trailing_zeros w64 (get_or set.words (from / 64) 0 / 2 ^ (from % 64)) =
    omega arith in
    ap (λ n. n == 1) (ap₂ (λ i j. bit_at (get_or set.words i 0) j) word bit
    ∙ sym (bit_from (get_or set.words (from / 64) 0) (from % 64) _) ∙ lowest (get_or set.words
    (from / 64) 0 / 2 ^ (from % 64)) some (below (get_or set.words (from / 64) 0) (from % 64) fits))
  where
    lowest : (n : ℕ) → 0 < n → n < 2 ^ 64 → bit_at n (trailing_zeros w64 n) ≡ 1
    lowest n some_ fits_ = (bit_at-trailing_zeros w64 n some_ fits_).1

    below : (n k : ℕ) → n < 2 ^ 64 → n / 2 ^ k < 2 ^ 64
    below n k fits_ = omega (arith, div-le_self n (2 ^ k))

pub found_whole : (set : NodeSet) (at : ℕ) → get_or set.words at 0 < 2 ^ 64
    → 0 < get_or set.words at 0
    → is_in (at * 64 + trailing_zeros w64 (get_or set.words at 0)) set ≡ true
unfolding is_in
found_whole set at fits some =
    let first = bit_at-trailing_zeros w64 (get_or set.words at 0) some fits in
    let within : trailing_zeros w64 (get_or set.words at 0) < 64 = first.0 in
    let word : (at * 64 + trailing_zeros w64 (get_or set.words at 0)) / 64 ≡ at = omega arith in
    let bit : (at * 64 + trailing_zeros w64 (get_or set.words at 0)) % 64
    ≡ trailing_zeros w64 (get_or set.words at 0) = omega arith in
    ap (λ n. n == 1) (ap₂ (λ i j. bit_at (get_or set.words i 0) j) word bit ∙ first.1)
