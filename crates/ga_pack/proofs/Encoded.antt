-- What follows if a word has a reading: it is the reading of the word's number, and it has no
-- fault.
use Rattle.std.proofs.Common.{◌≡◌, ℕ, ◌/◌, ◌%◌, ◌*◌, ◌^◌, ◌<◌, ◌≤◌, true, false, inl, inr, List, [], ◌∷◌, length, Option, Some, None, Ok, Err, Result, IfOk, IfErr, refl, eq-eqb, sym, ap, ◌∙◌, arith, lit<}
use Rattle.std.specs.Prelude.{bit_xor}
use Rattle.std.proofs.lemmas.Bool.{cases_Bool}
use Rattle.std.proofs.lemmas.Grind.{common_steps}
use Rattle.std.proofs.lemmas.Nat.{and_mask, shr_below, xor_lt}
use Rattle.ga_word.specs.Op.{code_of, fits_slot3, op_with, takes_dest}
use Rattle.ga_word.specs.Word.{bits}
use Rattle.ga_word.specs.declared.op.Op.{Op}
use Rattle.ga_word.specs.declared.op.Op.TheVariants.{Jump}
use Rattle.ga_pack.specs.Decoded.{Reading, reading_of}
use Rattle.ga_pack.specs.Encoding.{pack_fault}
use Rattle.ga_pack.specs.Reading.{Reads, dest_after_slot0, dest_after_slot1, dest_after_slot2, no_dest, stored, stored_upper}
use Rattle.ga_pack.specs.declared.encoding.PackError.{PackError}
use Rattle.ga_pack.specs.declared.encoding.PackError.TheVariants.{Shape}
use Rattle.ga_pack.proofs.BitLists.{bits-mod}
use Rattle.ga_pack.proofs.OneReading.{one_number, only_reading}
use Rattle.ga_pack.proofs.OpcodeTable.{code_of-op_with}
use Rattle.ga_pack.proofs.Spellings.{reads_after_slot0, reads_after_slot1, reads_after_slot2, reads_no_dest}
use Rattle.ga_pack.proofs.StoredOpcodes.{HasKey, key0, key1, key2, stored-field, stored_upper-masked}

-- an opcode that slot 3 takes has no destination
pub takes_none : (op : Op) → fits_slot3 op ≡ true → takes_dest op ≡ false
takes_none Jump fits = cc
takes_none _ fits = cc

-- what a word reads as has no fault
pub readable : {word : List ℕ} {ops : List Op} {dest : Option ℕ} {spare : ℕ}
    → Reads word ops dest spare → pack_fault ops dest spare ≡ None
unfolding pack_fault
readable (dest_after_slot0 op spare dest takes fits_spare fits) = grind (arith, common_steps)
readable (dest_after_slot1 a op dest none_a takes fits) = grind (arith, common_steps)
readable (dest_after_slot2 a b op dest none_a none_b takes fits) = grind (arith, common_steps)
readable (no_dest a b c d none_a none_b none_c fits) =
    let none_d = takes_none d fits in grind (arith, common_steps)

-- no opcodes are no word, nor are more than four
pub shapeless_few : (ops : List Op) (dest : Option ℕ) (spare : ℕ) → length ops < 1
    → pack_fault ops dest spare ≡ Some Shape
unfolding pack_fault
shapeless_few [] (Some dest) spare few = refl
shapeless_few [] None spare few = refl
shapeless_few (a ∷ ops) dest spare few = absurd (omega arith)

pub shapeless_many : (ops : List Op) (dest : Option ℕ) (spare : ℕ) → 5 ≤ length ops
    → pack_fault ops dest spare ≡ Some Shape
unfolding pack_fault
shapeless_many ops (Some dest) spare many = grind (arith, common_steps)
shapeless_many ops None spare many = grind (arith, common_steps)

-- the opcode in each slot
abbrev op_in_slot0 : ℕ → Op
op_in_slot0 word = op_with (bit_xor (word / 2 ^ 13) 0x0A)

abbrev op_in_slot1 : ℕ → Op
op_in_slot1 word = op_with (bit_xor (word / 2 ^ 8 % 2 ^ 5) 0x15)

abbrev op_in_slot2 : ℕ → Op
op_in_slot2 word = op_with (bit_xor (word / 2 ^ 3 % 2 ^ 5) 0x0A)

abbrev op_in_slot3 : ℕ → Op
op_in_slot3 word = op_with (bit_xor (word % 2 ^ 3) 0x05 * 4)

in_slot0 : (n : ℕ) → n < 2 ^ 18 → stored 0 (op_in_slot0 n) ≡ bits 5 (n / 2 ^ 13)
in_slot0 n fits =
    stored-field 0 0x0A key0 (op_in_slot0 n) (n / 2 ^ 13)
    (code_of-op_with (bit_xor (n / 2 ^ 13) 0x0A)
    (xor_lt 5 (n / 2 ^ 13) 0x0A (shr_below n 5 13 fits) (lit< tt)))

in_slot : (slot key : ℕ) → HasKey slot key → (n : ℕ)
    → stored slot (op_with (bit_xor (n % 2 ^ 5) key)) ≡ bits 5 n
in_slot slot key has n =
    stored-field slot key has (op_with (bit_xor (n % 2 ^ 5) key)) (n % 2 ^ 5)
    (code_of-op_with (bit_xor (n % 2 ^ 5) key) (xor_lt 5 (n % 2 ^ 5) key (omega arith) has.fits))
    ∙ bits-mod 5 n

in_slot3 : (n : ℕ) → (fits_slot3 (op_in_slot3 n) ≡ true) × (stored_upper (op_in_slot3 n) ≡ bits 3 n)
in_slot3 n =
    let upper = bit_xor (n % 2 ^ 3) 5 in
    let small : upper < 2 ^ 3 = xor_lt 3 (n % 2 ^ 3) 5 (omega arith) (lit< tt) in
    let code : code_of (op_in_slot3 n) ≡ upper * 4 = code_of-op_with (upper * 4) (omega arith) in
    let fits : code_of (op_in_slot3 n) % 4 ≡ 0 = omega arith in
    let masked = code ∙ ap (λ low. bit_xor low 5 * 4) (sym (and_mask n 3)) in
    (eq-eqb (code_of (op_in_slot3 n) % 4) 0 fits, stored_upper-masked (op_in_slot3 n) n masked)

-- the reading of a number is that of its bits
pub reading_of-reads : (n : ℕ) → n < 2 ^ 18
    → Reads (bits 18 n) (reading_of n).ops (reading_of n).dest (reading_of n).spare
unfolding reading_of
reading_of-reads n fits =
    let slot0 = in_slot0 n fits in
    let slot1 = in_slot 1 0x15 key1 (n / 2 ^ 8) in
    let slot2 = in_slot 2 0x0A key2 (n / 2 ^ 3) in
    let slot3 = in_slot3 n in
    elim (cases_Bool (takes_dest (op_in_slot0 n))) [
      | inl takes ↦ rw (takes, ← and_mask n 10, ← and_mask (n / 2 ^ 10) 3)
          (reads_after_slot0 n (op_in_slot0 n) takes slot0)
      | inr none0 ↦ rw none0
          (elim (cases_Bool (takes_dest (op_in_slot1 n))) [
            | inl takes ↦ rw (takes, ← and_mask n 8)
                (reads_after_slot1 n (op_in_slot0 n) (op_in_slot1 n) none0 takes slot0 slot1)
            | inr none1 ↦ rw none1
                (elim (cases_Bool (takes_dest (op_in_slot2 n))) [
                  | inl takes ↦ rw (takes, ← and_mask n 3)
                      (reads_after_slot2 n (op_in_slot0 n) (op_in_slot1 n)
                      (op_in_slot2 n) none0 none1 takes slot0 slot1 slot2)
                  | inr none2 ↦ rw none2
                      (reads_no_dest n (op_in_slot0 n) (op_in_slot1 n) (op_in_slot2 n)
                      (op_in_slot3 n) none0 none1 none2 slot3.0 slot0 slot1 slot2 slot3.1)
                ])
          ])
    ]

-- a reading is its parts
pub same_reading : (reading : Reading) (ops : List Op) (dest : Option ℕ) (spare : ℕ)
    → reading.ops ≡ ops → reading.dest ≡ dest → reading.spare ≡ spare
    → reading ≡ record { ops = ops; dest = dest; spare = spare }
same_reading reading ops dest spare same_ops same_dest same_spare =
    let by_ops : List Op → Reading =
    λ o. record { ops = o; dest = reading.dest; spare = reading.spare } in
    let by_dest : Option ℕ → Reading = λ d. record { ops = ops; dest = d; spare = reading.spare } in
    let by_spare : ℕ → Reading = λ n. record { ops = ops; dest = dest; spare = n } in
    ap by_ops same_ops ∙ ap by_dest same_dest ∙ ap by_spare same_spare

-- a word's only reading is that of its number
pub reading_is : {n : ℕ} {ops : List Op} {dest : Option ℕ} {spare : ℕ} → n < 2 ^ 18
    → Reads (bits 18 n) ops dest spare
    → reading_of n ≡ record { ops = ops; dest = dest; spare = spare }
reading_is {n = n} {ops = ops} {dest = dest} {spare = spare} below reads =
    let parts = only_reading reads (reading_of n).ops (reading_of n).dest (reading_of n).spare
    (reading_of-reads n below) in
    same_reading (reading_of n) ops dest spare parts.0 parts.1 parts.2

-- an answer that is a word that reads so, or the fault, is that word
pub answers_word : (answer : Result ℕ PackError) (ops : List Op) (dest : Option ℕ) (spare : ℕ)
    → IfOk answer (λ word. word < 2 ^ 18)
    → IfOk answer (λ word. Reads (bits 18 word) ops dest spare)
    → IfErr answer (λ error. pack_fault ops dest spare ≡ Some error) → (word : ℕ) → word < 2 ^ 18
    → Reads (bits 18 word) ops dest spare → answer ≡ Ok word
answers_word (Ok other) ops dest spare below reads fault word fits reads_word =
    ap Ok (one_number below fits reads reads_word)
answers_word (Err error) ops dest spare below reads fault word fits reads_word =
    let none = readable reads_word in
    cc

-- each part of the reading of an answer's word
pub answers_part : {X : Type 0} (part : Reading → X) (answer : Result ℕ PackError) (ops : List Op)
    (dest : Option ℕ) (spare : ℕ) → IfOk answer (λ word. word < 2 ^ 18)
    → IfOk answer (λ word. Reads (bits 18 word) ops dest spare) → IfOk answer
    (λ word. part (reading_of word) ≡ part (record { ops = ops; dest = dest; spare = spare }))
answers_part part (Ok word) ops dest spare below reads = ap part (reading_is below reads)
answers_part part (Err error) ops dest spare below reads = tt
