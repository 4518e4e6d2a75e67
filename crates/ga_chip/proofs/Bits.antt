-- A row of bits, when one of them is changed.
use Rattle.std.proofs.Common.{◌≡◌, ◌≢◌, ℕ, ◌/◌, ◌%◌, ◌<◌, ◌==◌, ◌⊎◌, inl, inr, Bool, true, false, List, length, length-set, set, get_or, map, replicate, refl, sym, ap, ◌∙◌, arith, zero-add, subst}
use Rattle.std.specs.Prelude.{if◌then◌else◌}
use Rattle.std.specs.Int.{bit_at}
use Rattle.std.specs.List.{range_with_len}
use Rattle.std.proofs.lemmas.Bool.{cases_eq, eq-eqb, ne_eqb}
use Rattle.std.proofs.lemmas.List.{get_or-set_same, get_or-set_other}
use Rattle.std.proofs.lemmas.List.FromFn.{fill_by_all, get_or-map-range_with_len, length-map-range_with_len}
use Rattle.ga_chip.specs.inner.Bits.{bits_of, is_bit}

same_place : (a b : ℕ) → a / 64 ≡ b / 64 → a % 64 ≡ b % 64 → a ≡ b
same_place a b e f = omega arith

rem_below : (a : ℕ) → a % 64 < 64
rem_below a = omega arith

-- a bit after a word has one other bit
pub bit_changed : (words : List ℕ) (place other word bit : ℕ) → place / 64 < length words
    → bit_at word (place % 64) ≡ bit
    → ((i : ℕ) → i < 64 → i ≢ place % 64 → bit_at word i ≡ bit_at (get_or words (place / 64) 0) i)
    → is_bit other (set words (place / 64) word)
    ≡ (if other == place then bit == 1 else is_bit other words)
bit_changed words place other word bit within here others =
    by (cases_eq (other / 64) (place / 64)) (cases_eq (other % 64) (place % 64))
  where
    same_word : other / 64 ≡ place / 64 → get_or (set words (place / 64) word) (other / 64) 0 ≡ word
    same_word e =
        ap (λ i. get_or (set words (place / 64) word) i 0) e
        ∙ get_or-set_same words (place / 64) word 0 within

    rest : (other ≡ place → ⊥) → bit_at (get_or (set words (place / 64) word) (other / 64) 0)
        (other % 64) ≡ bit_at (get_or words (other / 64) 0) (other % 64)
        → (bit_at (get_or (set words (place / 64) word) (other / 64) 0) (other % 64) == 1)
        ≡ (if other == place then bit == 1
        else bit_at (get_or words (other / 64) 0) (other % 64) == 1)
    rest apart e =
        ap (λ n. n == 1) e ∙ sym (ap (λ b. if b then bit == 1
        else bit_at (get_or words (other / 64) 0) (other % 64) == 1) (ne_eqb other place apart))

    by : (other / 64 ≡ place / 64) ⊎ (other / 64 ≡ place / 64 → ⊥)
        → (other % 64 ≡ place % 64) ⊎ (other % 64 ≡ place % 64 → ⊥)
        → (bit_at (get_or (set words (place / 64) word) (other / 64) 0) (other % 64) == 1)
        ≡ (if other == place then bit == 1
        else bit_at (get_or words (other / 64) 0) (other % 64) == 1)
    by (inl e) (inl f) =
        ap (λ n. n == 1) (ap (λ x. bit_at x (other % 64)) (same_word e) ∙ ap (bit_at word) f ∙ here)
        ∙ sym (ap (λ b. if b then bit == 1 else bit_at (get_or words (other / 64) 0) (other % 64)
        == 1) (eq-eqb other place (same_place other place e f)))
    by (inl e) (inr f) =
        rest (λ same. f (ap (λ n. n % 64) same))
        (ap (λ x. bit_at x (other % 64)) (same_word e) ∙ others (other % 64) (rem_below other) f
        ∙ ap (λ i. bit_at (get_or words i 0) (other % 64)) (sym e))
    by (inr e) _ =
        rest (λ same. e (ap (λ n. n / 64) same))
        (ap (λ x. bit_at x (other % 64))
        (get_or-set_other words (place / 64) (other / 64) word 0 e))

-- no bit is 1
pub no_bits : bits_of 512 (replicate 8 0) ≡ replicate 512 false
unfolding bits_of
no_bits = refl

-- a bit of the row
pub bit_of : (count place : ℕ) (words : List ℕ) → place < count
    → get_or (bits_of count words) place false ≡ is_bit place words
unfolding bits_of
bit_of count place words below =
    get_or-map-range_with_len (λ at. is_bit at words) 0 count place place false below
    (zero-add place)

-- the row if a word has one other bit
pub bits_changed : (count : ℕ) (words : List ℕ) (place word bit : ℕ) → place < count
    → place / 64 < length words → bit_at word (place % 64) ≡ bit
    → ((i : ℕ) → i < 64 → i ≢ place % 64 → bit_at word i ≡ bit_at (get_or words (place / 64) 0) i)
    → bits_of count (set words (place / 64) word) ≡ set (bits_of count words) place (bit == 1)
unfolding bits_of
bits_changed count words place word bit below within here others =
    sym (fill_by_all (λ at. is_bit at (set words (place / 64) word)) (set before place (bit == 1))
    count false (length-set before place (bit == 1) ∙ full) (λ at h. by at h (cases_eq at place)))
  where
    before : List Bool
    before = map (λ at. is_bit at words) (range_with_len 0 count)

    full : length before ≡ count
    full = length-map-range_with_len (λ at. is_bit at words) 0 count

    changed : (at : ℕ) (b : Bool) → (at == place) ≡ b
        → is_bit at (set words (place / 64) word) ≡ (if b then bit == 1 else is_bit at words)
    changed at b e =
        bit_changed words place at word bit within here others
        ∙ ap (λ b. if b then bit == 1 else is_bit at words) e

    by : (at : ℕ) → at < count → (at ≡ place) ⊎ (at ≡ place → ⊥)
        → get_or (set before place (bit == 1)) at false ≡ is_bit at (set words (place / 64) word)
    by at h (inl same) =
        ap (λ i. get_or (set before place (bit == 1)) i false) same
        ∙ get_or-set_same before place (bit == 1) false (subst (λ n. place < n) (sym full) below)
        ∙ sym (changed at true (eq-eqb at place same))
    by at h (inr apart) =
        get_or-set_other before place at (bit == 1) false apart
        ∙ get_or-map-range_with_len (λ i. is_bit i words) 0 count at at false h (zero-add at)
        ∙ sym (changed at false (ne_eqb at place apart))
