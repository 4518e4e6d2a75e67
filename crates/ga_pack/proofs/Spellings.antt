-- The four ways in which a word is cut, as readings.
use Rattle.std.proofs.Common.{◌≡◌, ℕ, ◌-◌, ◌/◌, ◌^◌, ◌<◌, true, false, [], ◌∷◌, ◌++◌, Some, None, ap, sym, ◌∙◌, lit<, arith, append_assoc}
use Rattle.std.specs.Prelude.{bit_and}
use Rattle.std.proofs.lemmas.Nat.{and_le_r}
use Rattle.ga_word.specs.Op.{fits_slot3, takes_dest}
use Rattle.ga_word.specs.Word.{bits}
use Rattle.ga_word.specs.declared.op.Op.{Op}
use Rattle.ga_pack.specs.Reading.{Reads, dest_after_slot0, dest_after_slot1, dest_after_slot2, no_dest, stored, stored_upper}
use Rattle.ga_pack.proofs.BitLists.{bits-add, bits-masked}

masked_below : (n max limit : ℕ) → max < limit → bit_and n max < limit
masked_below n max limit h = omega (arith, and_le_r n max)

cut_after_slot0 : (n : ℕ) → bits 18 n ≡ bits 5 (n / 2 ^ 13) ++ bits 3 (n / 2 ^ 10) ++ bits 10 n
cut_after_slot0 n =
    bits-add 5 13 n
    ∙ ap (λ rest. bits 5 (n / 2 ^ 13) ++ rest) (bits-add 3 10 n)
    ∙ sym (append_assoc (bits 5 (n / 2 ^ 13)) (bits 3 (n / 2 ^ 10)) (bits 10 n))

cut_after_slot1 : (n : ℕ) → bits 18 n ≡ bits 5 (n / 2 ^ 13) ++ bits 5 (n / 2 ^ 8) ++ bits 8 n
cut_after_slot1 n =
    bits-add 5 13 n
    ∙ ap (λ rest. bits 5 (n / 2 ^ 13) ++ rest) (bits-add 5 8 n)
    ∙ sym (append_assoc (bits 5 (n / 2 ^ 13)) (bits 5 (n / 2 ^ 8)) (bits 8 n))

cut_after_slot2 : (n : ℕ)
    → bits 18 n ≡ bits 5 (n / 2 ^ 13) ++ bits 5 (n / 2 ^ 8) ++ bits 5 (n / 2 ^ 3) ++ bits 3 n
cut_after_slot2 n =
    cut_after_slot1 n
    ∙ ap (λ rest. bits 5 (n / 2 ^ 13) ++ bits 5 (n / 2 ^ 8) ++ rest) (bits-add 5 3 n)
    ∙ sym (append_assoc (bits 5 (n / 2 ^ 13) ++ bits 5 (n / 2 ^ 8)) (bits 5 (n / 2 ^ 3)) (bits 3 n))

pub reads_after_slot0 : (n : ℕ) (op : Op) → takes_dest op ≡ true → stored 0 op ≡ bits 5 (n / 2 ^ 13)
    → Reads (bits 18 n) (op ∷ []) (Some (bit_and n (2 ^ 10 - 1))) (bit_and (n / 2 ^ 10) (2 ^ 3 - 1))
reads_after_slot0 n op takes in_slot0 =
    let cut = cut_after_slot0 n in
    let spare = bits-masked 3 (n / 2 ^ 10) in
    let dest = bits-masked 10 n in
    let spelled : stored 0 op ++ bits 3 (bit_and (n / 2 ^ 10) (2 ^ 3 - 1))
    ++ bits 10 (bit_and n (2 ^ 10 - 1)) ≡ bits 18 n = cc in
    rw (← spelled)
    (dest_after_slot0 op (bit_and (n / 2 ^ 10) (2 ^ 3 - 1)) (bit_and n (2 ^ 10 - 1)) takes
    (masked_below (n / 2 ^ 10) 7 8 (lit< tt)) (masked_below n 1023 1024 (lit< tt)))

pub reads_after_slot1 : (n : ℕ) (a op : Op) → takes_dest a ≡ false → takes_dest op ≡ true
    → stored 0 a ≡ bits 5 (n / 2 ^ 13) → stored 1 op ≡ bits 5 (n / 2 ^ 8)
    → Reads (bits 18 n) (a ∷ op ∷ []) (Some (bit_and n (2 ^ 8 - 1))) 0
reads_after_slot1 n a op none_a takes in_slot0 in_slot1 =
    let cut = cut_after_slot1 n in
    let dest = bits-masked 8 n in
    let spelled : stored 0 a ++ stored 1 op ++ bits 8 (bit_and n (2 ^ 8 - 1)) ≡ bits 18 n = cc in
    rw (← spelled)
    (dest_after_slot1 a op (bit_and n (2 ^ 8 - 1)) none_a takes (masked_below n 255 256 (lit< tt)))

pub reads_after_slot2 : (n : ℕ) (a b op : Op) → takes_dest a ≡ false → takes_dest b ≡ false
    → takes_dest op ≡ true → stored 0 a ≡ bits 5 (n / 2 ^ 13) → stored 1 b ≡ bits 5 (n / 2 ^ 8)
    → stored 2 op ≡ bits 5 (n / 2 ^ 3)
    → Reads (bits 18 n) (a ∷ b ∷ op ∷ []) (Some (bit_and n (2 ^ 3 - 1))) 0
reads_after_slot2 n a b op none_a none_b takes in_slot0 in_slot1 in_slot2 =
    let cut = cut_after_slot2 n in
    let dest = bits-masked 3 n in
    let spelled : stored 0 a ++ stored 1 b ++ stored 2 op ++ bits 3 (bit_and n (2 ^ 3 - 1))
    ≡ bits 18 n = cc in
    rw (← spelled)
    (dest_after_slot2 a b op (bit_and n (2 ^ 3 - 1)) none_a none_b takes
    (masked_below n 7 8 (lit< tt)))

pub reads_no_dest : (n : ℕ) (a b c d : Op) → takes_dest a ≡ false → takes_dest b ≡ false
    → takes_dest c ≡ false → fits_slot3 d ≡ true → stored 0 a ≡ bits 5 (n / 2 ^ 13)
    → stored 1 b ≡ bits 5 (n / 2 ^ 8) → stored 2 c ≡ bits 5 (n / 2 ^ 3) → stored_upper d ≡ bits 3 n
    → Reads (bits 18 n) (a ∷ b ∷ c ∷ d ∷ []) None 0
reads_no_dest n a b c d none_a none_b none_c fits in_slot0 in_slot1 in_slot2 in_slot3 =
    let cut = cut_after_slot2 n in
    let spelled : stored 0 a ++ stored 1 b ++ stored 2 c ++ stored_upper d ≡ bits 18 n = cc in
    rw (← spelled) (no_dest a b c d none_a none_b none_c fits)
