-- Opcodes, a destination and spare bits without a fault for packing are what a word reads as.
use Rattle.std.proofs.Common.{◌≡◌, ℕ, ◌+◌, ◌*◌, ◌/◌, ◌^◌, ◌<◌, Bool, true, false, List, [], ◌∷◌, Option, Some, None, refl, arith, lit<}
use Rattle.std.specs.Prelude.{bit_xor, not, if◌then◌else◌}
use Rattle.std.specs.List.{list_all}
use Rattle.std.proofs.lemmas.Bool.{and_parts, ltb-true, not-true}
use Rattle.std.proofs.lemmas.Nat.{xor_lt}
use Rattle.ga_word.specs.Op.{code_of, fits_slot3, takes_dest}
use Rattle.ga_word.specs.Word.{bits}
use Rattle.ga_word.specs.declared.op.Op.{Op}
use Rattle.ga_word.proofs.OpCodes.{code_of-below}
use Rattle.ga_pack.specs.Encoding.{dest_fits, ends_at_dest, has_shape, pack_fault, slot3_fits, spare_fits}
use Rattle.ga_pack.specs.Reading.{Reads, stored}
use Rattle.ga_pack.specs.declared.encoding.PackError.TheVariants.{Shape, Slot3, Dest, Spare}
use Rattle.ga_pack.proofs.Encoded.{shapeless_many}
use Rattle.ga_pack.proofs.MadeWords.{made_behind_slot0, made_behind_slot1, made_behind_slot2, made_without_dest}
use Rattle.ga_pack.proofs.StoredOpcodes.{HasKey, key0, key1, key2, stored-coded, stored_upper-coded}

-- a word that reads so
abbrev pub SomeWord : List Op → Option ℕ → ℕ → Type 0
SomeWord ops dest spare = (word : ℕ) × (word < 2 ^ 18) × Reads (bits 18 word) ops dest spare

field : ℕ → Op → ℕ
field key op = bit_xor (code_of op) key

field-below : (slot key : ℕ) → HasKey slot key → (op : Op) → field key op < 2 ^ 5
unfolding field
field-below slot key has op = xor_lt 5 (code_of op) key (code_of-below op) has.fits

field-stored : (slot key : ℕ) → HasKey slot key → (op : Op) → stored slot op ≡ bits 5 (field key op)
unfolding field
field-stored slot key has op = stored-coded slot key has op (code_of op) refl

some0 : (a : Op) (dest spare : ℕ) → takes_dest a ≡ true → dest < 2 ^ 10 → spare < 2 ^ 3
    → SomeWord (a ∷ []) (Some dest) spare
some0 a dest spare takes fits fits_spare =
    let below = field-below 0 0x0A key0 a in
    let n = (field 0x0A a * 2 ^ 3 + spare) * 2 ^ 10 + dest in (
      n,
      omega arith,
      made_behind_slot0 n (field 0x0A a) spare dest a takes
          (field-stored 0 0x0A key0 a) fits_spare fits refl,
    )

some1 : (a b : Op) (dest : ℕ) → takes_dest a ≡ false → takes_dest b ≡ true → dest < 2 ^ 8
    → SomeWord (a ∷ b ∷ []) (Some dest) 0
some1 a b dest none takes fits =
    let below_a = field-below 0 0x0A key0 a in
    let below_b = field-below 1 0x15 key1 b in
    let n = (field 0x0A a * 2 ^ 5 + field 0x15 b) * 2 ^ 8 + dest in (
      n,
      omega arith,
      made_behind_slot1 n (field 0x0A a) (field 0x15 b) dest a b none takes
          (field-stored 0 0x0A key0 a) (field-stored 1 0x15 key1 b) below_b fits refl,
    )

some2 : (a b c : Op) (dest : ℕ) → takes_dest a ≡ false → takes_dest b ≡ false → takes_dest c ≡ true
    → dest < 2 ^ 3 → SomeWord (a ∷ b ∷ c ∷ []) (Some dest) 0
some2 a b c dest none_a none_b takes fits =
    let below_a = field-below 0 0x0A key0 a in
    let below_b = field-below 1 0x15 key1 b in
    let below_c = field-below 2 0x0A key2 c in
    let n = ((field 0x0A a * 2 ^ 5 + field 0x15 b) * 2 ^ 5 + field 0x0A c) * 2 ^ 3 + dest in (
      n,
      omega arith,
      made_behind_slot2 n (field 0x0A a) (field 0x15 b)
          (field 0x0A c) dest a b c none_a none_b takes
          (field-stored 0 0x0A key0 a) (field-stored 1 0x15 key1 b)
          (field-stored 2 0x0A key2 c) below_b below_c fits refl,
    )

some3 : (a b c d : Op) → takes_dest a ≡ false → takes_dest b ≡ false → takes_dest c ≡ false
    → fits_slot3 d ≡ true → SomeWord (a ∷ b ∷ c ∷ d ∷ []) None 0
some3 a b c d none_a none_b none_c fits =
    let below_a = field-below 0 0x0A key0 a in
    let below_b = field-below 1 0x15 key1 b in
    let below_c = field-below 2 0x0A key2 c in
    let upper = bit_xor (code_of d / 2 ^ 2) 5 in
    let code = code_of-below d in
    let below_d : upper < 2 ^ 3 = xor_lt 3 (code_of d / 2 ^ 2) 5 (omega arith) (lit< tt) in
    let n = ((field 0x0A a * 2 ^ 5 + field 0x15 b) * 2 ^ 5 + field 0x0A c) * 2 ^ 3 + upper in (
      n,
      omega arith,
      made_without_dest n (field 0x0A a) (field 0x15 b)
          (field 0x0A c) upper a b c d none_a none_b none_c fits
          (field-stored 0 0x0A key0 a) (field-stored 1 0x15 key1 b) (field-stored 2 0x0A key2 c)
          (stored_upper-coded d (code_of d / 2 ^ 2) refl) below_b below_c below_d refl,
    )

parts_of : (shape slot3 fits none : Bool)
    → (if not shape then Some Shape else if not slot3 then Some Slot3 else if not fits
    then Some Dest else if not none then Some Spare else None) ≡ None
    → (shape ≡ true) × (slot3 ≡ true) × (fits ≡ true) × (none ≡ true)
parts_of true true true true h = (refl, refl, refl, refl)
parts_of _ _ _ _ h = absurd (cc)

no_fault_parts : (ops : List Op) (dest : Option ℕ) (spare : ℕ) → pack_fault ops dest spare ≡ None
    → (has_shape ops dest ≡ true) × (slot3_fits ops ≡ true) × (dest_fits ops dest ≡ true)
    × (spare_fits ops spare ≡ true)
unfolding pack_fault
no_fault_parts ops dest spare h =
    parts_of (has_shape ops dest) (slot3_fits ops) (dest_fits ops dest) (spare_fits ops spare) h

pub encodable : (ops : List Op) (dest : Option ℕ) (spare : ℕ) → pack_fault ops dest spare ≡ None
    → SomeWord ops dest spare
unfolding pack_fault
encodable [] (Some dest) spare h = absurd (cc)
encodable (a ∷ []) (Some dest) spare h =
    let parts = no_fault_parts (a ∷ []) (Some dest) spare h in
    some0 a dest spare parts.0 (ltb-true dest 1024 parts.2) (ltb-true spare 8 parts.3)
encodable (a ∷ b ∷ []) (Some dest) spare h =
    let parts = no_fault_parts (a ∷ b ∷ []) (Some dest) spare h in
    let none : spare ≡ 0 = omega (arith, ltb-true spare 1 parts.3) in
    let shape = and_parts (not (takes_dest a)) (takes_dest b) parts.0 in
    rw none (some1 a b dest (not-true (takes_dest a) shape.0) shape.1 (ltb-true dest 256 parts.2))
encodable (a ∷ b ∷ c ∷ []) (Some dest) spare h =
    let parts = no_fault_parts (a ∷ b ∷ c ∷ []) (Some dest) spare h in
    let shape : ends_at_dest (a ∷ b ∷ c ∷ []) ≡ true = parts.0 in
    let none : spare ≡ 0 = omega (arith, ltb-true spare 1 parts.3) in
    let first = and_parts (not (takes_dest a)) (ends_at_dest (b ∷ c ∷ [])) shape in
    let second = and_parts (not (takes_dest b)) (takes_dest c) first.1 in
    rw none (some2 a b c dest (not-true (takes_dest a) first.0)
    (not-true (takes_dest b) second.0) second.1 (ltb-true dest 8 parts.2))
encodable (a ∷ b ∷ c ∷ d ∷ []) None spare h =
    let parts = no_fault_parts (a ∷ b ∷ c ∷ d ∷ []) None spare h in
    let is_none : Op → Bool = λ op. not (takes_dest op) in
    let shape : list_all is_none (a ∷ b ∷ c ∷ d ∷ []) ≡ true = parts.0 in
    let none : spare ≡ 0 = omega (arith, ltb-true spare 1 parts.3) in
    let first = and_parts (is_none a) (list_all is_none (b ∷ c ∷ d ∷ [])) shape in
    let second = and_parts (is_none b) (list_all is_none (c ∷ d ∷ [])) first.1 in
    let third = and_parts (is_none c) (list_all is_none (d ∷ [])) second.1 in
    rw none (some3 a b c d (not-true (takes_dest a) first.0) (not-true (takes_dest b) second.0)
    (not-true (takes_dest c) third.0) parts.1)
encodable (a ∷ b ∷ c ∷ d ∷ e ∷ ops) dest spare h =
    absurd (let shape = shapeless_many (a ∷ b ∷ c ∷ d ∷ e ∷ ops) dest spare (omega arith) in cc)
encodable _ _ spare h = absurd (cc)
