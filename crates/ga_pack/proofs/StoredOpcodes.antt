-- What a slot stores of an opcode.
use Rattle.std.proofs.Common.{◌≡◌, ℕ, ◌-◌, ◌*◌, ◌/◌, ◌%◌, ◌^◌, ◌<◌, true, List, ◌++◌, length, take, refl, ap, sym, ◌∙◌, lit<, arith}
use Rattle.std.proofs.Math.Seq.{take-append_seam}
use Rattle.std.specs.Int.Bits.{xor_assoc, xor_self, xor_zero_r}
use Rattle.std.specs.Prelude.{bit_and, bit_xor}
use Rattle.std.proofs.lemmas.Bool.{eqb-true}
use Rattle.std.proofs.lemmas.Nat.{and_le_r, shl-shr, xor_lt}
use Rattle.ga_word.specs.Op.{code_of, fits_slot3}
use Rattle.ga_word.specs.Word.{bits}
use Rattle.ga_word.specs.declared.op.Op.{Op}
use Rattle.ga_pack.specs.Reading.{slot_key, stored, stored_upper, xor_bits}
use Rattle.ga_pack.proofs.BitLists.{append_same, bits-add, bits-injective, bits-masked, length-bits, xor_bits-bits}
use Rattle.ga_word.proofs.OpCodes.{code_of-below, code_of-injective}

xor_twice : (a key : ℕ) → bit_xor (bit_xor a key) key ≡ a
xor_twice a key = xor_assoc a key key ∙ ap (bit_xor a) (xor_self key) ∙ xor_zero_r a

-- numbers that are the same in exclusive-or with a key
xor_same : (a b key : ℕ) → bit_xor a key ≡ bit_xor b key → a ≡ b
xor_same a b key e = sym (xor_twice a key) ∙ ap (λ n. bit_xor n key) e ∙ xor_twice b key

-- the key of a slot of five bits, as a number
pub record HasKey (slot key : ℕ) : Type 0 where
  is : slot_key slot ≡ bits 5 key
  pub fits : key < 2 ^ 5

pub key0 : HasKey 0 0x0A
unfolding bits slot_key
key0 = record { is = refl; fits = lit< tt }

pub key1 : HasKey 1 0x15
unfolding bits slot_key
key1 = record { is = refl; fits = lit< tt }

pub key2 : HasKey 2 0x0A
unfolding bits slot_key
key2 = record { is = refl; fits = lit< tt }

key3 : slot_key 3 ≡ bits 3 5
unfolding bits slot_key
key3 = refl

stored-bits : (slot key : ℕ) → HasKey slot key → (op : Op)
    → stored slot op ≡ bits 5 (bit_xor (code_of op) key)
unfolding stored
stored-bits slot key has op =
    ap (xor_bits (bits 5 (code_of op))) has.is ∙ xor_bits-bits 5 (code_of op) key

pub stored-coded : (slot key : ℕ) → HasKey slot key → (op : Op) (code : ℕ) → code ≡ code_of op
    → stored slot op ≡ bits 5 (bit_xor code key)
stored-coded slot key has op code is =
    stored-bits slot key has op ∙ ap (λ n. bits 5 (bit_xor n key)) (sym is)

-- the opcode that five bits store has as its code these bits in exclusive-or with the key
pub stored-field : (slot key : ℕ) → HasKey slot key → (op : Op) (field : ℕ)
    → code_of op ≡ bit_xor field key → stored slot op ≡ bits 5 field
stored-field slot key has op field is =
    stored-bits slot key has op
    ∙ ap (bits 5) (ap (λ code. bit_xor code key) is ∙ xor_twice field key)

pub masked-below : (slot key : ℕ) → HasKey slot key → (n : ℕ)
    → bit_xor (bit_and n (2 ^ 5 - 1)) key < 2 ^ 5
masked-below slot key has n =
    let five_bits : bit_and n (2 ^ 5 - 1) < 2 ^ 5 = omega (arith, and_le_r n (2 ^ 5 - 1)) in
    xor_lt 5 (bit_and n (2 ^ 5 - 1)) key five_bits has.fits

pub stored-masked : (slot key : ℕ) → HasKey slot key → (op : Op) (n : ℕ)
    → code_of op ≡ bit_xor (bit_and n (2 ^ 5 - 1)) key → stored slot op ≡ bits 5 n
stored-masked slot key has op n is =
    stored-field slot key has op (bit_and n (2 ^ 5 - 1)) is ∙ bits-masked 5 n

-- equal stored prefixes of two lists have the same opcode and the same rest
pub stored-front : (slot key : ℕ) → HasKey slot key → (a b : Op) (r s : List ℕ)
    → stored slot a ++ r ≡ stored slot b ++ s → (a ≡ b) × (r ≡ s)
stored-front slot key has a b r s e =
    let bits_a = stored-bits slot key has a in
    let bits_b = stored-bits slot key has b in
    let len_a = ap length bits_a ∙ length-bits 5 (bit_xor (code_of a) key) in
    let len_b = ap length bits_b ∙ length-bits 5 (bit_xor (code_of b) key) in
    let parts = append_same (stored slot a) (stored slot b) r s (len_a ∙ sym len_b) e in
    let codes = bits-injective 5 (bit_xor (code_of a) key) (bit_xor (code_of b) key)
    (xor_lt 5 (code_of a) key (code_of-below a) has.fits)
    (xor_lt 5 (code_of b) key (code_of-below b) has.fits)
    (sym bits_a ∙ parts.0 ∙ bits_b) in
    (code_of-injective a b (xor_same (code_of a) (code_of b) key codes), parts.1)

-- the upper three of five bits
take-bits : (n : ℕ) → take 3 (bits 5 n) ≡ bits 3 (n / 2 ^ 2)
take-bits n =
    ap (take 3) (bits-add 3 2 n)
    ∙ ap (λ count. take count (bits 3 (n / 2 ^ 2) ++ bits 2 n)) (sym (length-bits 3 (n / 2 ^ 2)))
    ∙ take-append_seam (bits 3 (n / 2 ^ 2)) (bits 2 n)

stored_upper-bits : (op : Op) → stored_upper op ≡ bits 3 (bit_xor (code_of op / 2 ^ 2) 5)
unfolding stored_upper
stored_upper-bits op =
    ap (λ upper. xor_bits upper (slot_key 3)) (take-bits (code_of op))
    ∙ ap (xor_bits (bits 3 (code_of op / 2 ^ 2))) key3
    ∙ xor_bits-bits 3 (code_of op / 2 ^ 2) 5

pub stored_upper-coded : (op : Op) (upper : ℕ) → upper ≡ code_of op / 2 ^ 2
    → stored_upper op ≡ bits 3 (bit_xor upper 5)
stored_upper-coded op upper is = stored_upper-bits op ∙ ap (λ n. bits 3 (bit_xor n 5)) (sym is)

-- the opcode that slot 3 stores has as the upper bits of its code these three in exclusive-or with
-- the key
pub stored_upper-masked : (op : Op) (n : ℕ) → code_of op ≡ bit_xor (bit_and n (2 ^ 3 - 1)) 5 * 2 ^ 2
    → stored_upper op ≡ bits 3 n
stored_upper-masked op n is =
    let field = bit_and n (2 ^ 3 - 1) in
    stored_upper-bits op
    ∙ ap (λ code. bits 3 (bit_xor (code / 2 ^ 2) 5)) is
    ∙ ap (λ upper. bits 3 (bit_xor upper 5)) (shl-shr (bit_xor field 5) 2)
    ∙ ap (bits 3) (xor_twice field 5)
    ∙ bits-masked 3 n

upper_below : (op : Op) → code_of op / 2 ^ 2 < 2 ^ 3
upper_below op = let below = code_of-below op in omega arith

-- slot 3 determines an opcode whose lower two bits are 0
pub stored_upper-injective : (a b : Op) → fits_slot3 a ≡ true → fits_slot3 b ≡ true
    → stored_upper a ≡ stored_upper b → a ≡ b
stored_upper-injective a b fits_a fits_b e =
    let upper = xor_same (code_of a / 2 ^ 2) (code_of b / 2 ^ 2) 5
    (bits-injective 3 (bit_xor (code_of a / 2 ^ 2) 5) (bit_xor (code_of b / 2 ^ 2) 5)
    (xor_lt 3 (code_of a / 2 ^ 2) 5 (upper_below a) (lit< tt))
    (xor_lt 3 (code_of b / 2 ^ 2) 5 (upper_below b) (lit< tt))
    (sym (stored_upper-bits a) ∙ e ∙ stored_upper-bits b)) in
    let low_a = eqb-true (code_of a % 4) 0 fits_a in
    let low_b = eqb-true (code_of b % 4) 0 fits_b in
    code_of-injective a b (omega arith)
