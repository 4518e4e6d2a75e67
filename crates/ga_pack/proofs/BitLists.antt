-- The low bits of a number as a list.
use Rattle.std.proofs.Common.{◌≡◌, ℕ, zero, suc, ◌+◌, ◌-◌, ◌*◌, ◌/◌, ◌%◌, ◌^◌, ◌<◌, inl, inr, List, [], ◌∷◌, ◌++◌, length, refl, ap, sym, ◌∙◌, arith}
use Rattle.std.proofs.Math.Nat.{suc-add, zero-add, add_comm}
use Rattle.std.specs.Int.{bit_at}
use Rattle.std.specs.Prelude.{bit_and, bit_xor}
use Rattle.std.proofs.lemmas.Bool.{cases_eq}
use Rattle.std.proofs.lemmas.Nat.{and_mask, mod_low, shr-shr, shr_high, shr_split}
use Rattle.std.proofs.lemmas.Nat.Bits.{bit_at_cat_low, bit_at_xor, same_from_bits_below}
use Rattle.ga_word.specs.Word.{bits}
use Rattle.ga_pack.specs.Reading.{xor_bits}

-- numbers whose low bits are the same
bits-same : (width a b : ℕ) → ((i : ℕ) → i < width → bit_at a i ≡ bit_at b i)
    → bits width a ≡ bits width b
unfolding bits
bits-same zero a b same = refl
bits-same (suc width) a b same =
    let here = same width (omega arith) in
    let below = bits-same width a b (λ i h. same i (omega arith)) in
    cc

-- the bits above the lowest `low`, and then those
pub bits-add : (width low n : ℕ) → bits (width + low) n ≡ bits width (n / 2 ^ low) ++ bits low n
unfolding bits
bits-add zero low n = ap (λ w. bits w n) (zero-add low)
bits-add (suc width) low n =
    let shifted = shr-shr n low width in
    let turned = add_comm low width in
    let rest = bits-add width low n in
    rw suc-add cc

-- a remainder keeps the low bits
pub bits-mod : (width n : ℕ) → bits width (n % 2 ^ width) ≡ bits width n
bits-mod width n =
    bits-same width (n % 2 ^ width) n
    (λ i h.
    let split = shr_split n width in
    let low = bit_at_cat_low (n / 2 ^ width) width (n % 2 ^ width) i h in
    cc)

pub bits-masked : (width n : ℕ) → bits width (bit_and n (2 ^ width - 1)) ≡ bits width n
bits-masked width n = ap (bits width) (and_mask n width) ∙ bits-mod width n

pub length-bits : (width n : ℕ) → length (bits width n) ≡ width
unfolding bits
length-bits zero n = refl
length-bits (suc width) n = ap suc (length-bits width n)

-- the exclusive-or of two numbers, bit by bit
pub xor_bits-bits : (width a b : ℕ)
    → xor_bits (bits width a) (bits width b) ≡ bits width (bit_xor a b)
unfolding bits xor_bits
xor_bits-bits zero a b = refl
xor_bits-bits (suc width) a b =
    let here = bit_at_xor a b width in
    let below = xor_bits-bits width a b in
    cc

same_bit : (width a b : ℕ) → bits width a ≡ bits width b → (i : ℕ) → i < width
    → bit_at a i ≡ bit_at b i
unfolding bits
same_bit zero a b e i h = absurd (omega arith)
same_bit (suc width) a b e i h =
    let top : bit_at a width ≡ bit_at b width = cc in
    let below : bits width a ≡ bits width b = cc in
    elim (cases_eq i width) [
      | inl is ↦ ap (bit_at a) is ∙ top ∙ ap (bit_at b) (sym is)
      | inr other ↦ same_bit width a b below i (omega arith)
    ]

-- numbers below `2 ^ width` with the same bits are equal
pub bits-injective : (width a b : ℕ) → a < 2 ^ width → b < 2 ^ width → bits width a ≡ bits width b
    → a ≡ b
bits-injective width a b fits_a fits_b e =
    same_from_bits_below width a b fits_a fits_b (same_bit width a b e)

-- two lists of one length, each with more behind it
pub append_same : (xs ys r s : List ℕ) → length xs ≡ length ys → xs ++ r ≡ ys ++ s
    → (xs ≡ ys) × (r ≡ s)
append_same [] [] r s len e = (refl, e)
append_same [] (y ∷ ys) r s len e = absurd (omega arith)
append_same (x ∷ xs) [] r s len e = absurd (omega arith)
append_same (x ∷ xs) (y ∷ ys) r s len e =
    let here : x ≡ y = cc in
    let behind : xs ++ r ≡ ys ++ s = cc in
    let rest = append_same xs ys r s (omega arith) behind in
    let front = rest.0 in
    (cc, rest.1)

-- a number put together of two fields
pub bits-joined : (width low front field : ℕ) → field < 2 ^ low
    → bits (width + low) (front * 2 ^ low + field) ≡ bits width front ++ bits low field
bits-joined width low front field fits =
    let above = shr_high front low field fits in
    let below = mod_low front low field fits in
    bits-add width low (front * 2 ^ low + field)
    ∙ ap (λ n. bits width n ++ bits low (front * 2 ^ low + field)) above
    ∙ ap (λ b. bits width front ++ b) (sym (bits-mod low (front * 2 ^ low + field))
    ∙ ap (bits low) below)
