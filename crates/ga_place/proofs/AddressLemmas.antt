-- Masks on addresses, as quotients and remainders, and what a port address reaches.
use Rattle.std.proofs.Common.{◌≡◌, ℕ, ◌+◌, ◌*◌, ◌/◌, ◌%◌, ◌<◌, ◌≢◌, arith, refl, ◌∙◌, zero-add, bit_and, bit_xor, Bool, true, false}
use Rattle.std.specs.Prelude.{if◌then◌else◌, ◌==◌, ◌||◌}
use Rattle.ga_place.specs.Node.{row_of, column_of}
use Rattle.ga_place.specs.Side.{sides_by_edge, sides_with}
use Rattle.ga_place.specs.Address.{advance_of, io_where, where_is}
use Rattle.ga_place.specs.declared.address.Where.TheVariants.{Ports, Unmapped}
use Rattle.std.proofs.lemmas.Nat.{and_mask, xor_block}
use Rattle.std.proofs.lemmas.Nat.Bits.{and_pow}

-- the exclusive or of an I/O address with 155 is that of their low eight bits
pub io_difference : (low : ℕ) → low < 256 → bit_xor (256 + low) 341 ≡ bit_xor low 85
io_difference low below = xor_block 8 1 1 low 85 below (omega arith) ∙ zero-add (bit_xor low 85)

-- bit 8 of an address
pub bit_8 : (n : ℕ) → bit_and n 256 ≡ n / 256 % 2 * 256
bit_8 n = and_pow n 8

-- the low seven bits of an address
pub low_7 : (n : ℕ) → bit_and n 127 ≡ n % 128
low_7 n = and_mask n 7

-- the low four bits of a number
pub low_4 : (n : ℕ) → bit_and n 15 ≡ n % 16
low_4 n = and_mask n 4

-- an address with bit 8 set stays
pub advance_of-stays : (n : ℕ) → n / 256 % 2 ≡ 1 → advance_of n ≡ n
advance_of-stays n high = rw high

-- any other address steps in its low seven bits
pub advance_of-steps : (n : ℕ) → n / 256 % 2 ≢ 1 → advance_of n ≡ n / 128 * 128 + (n + 1) % 128
advance_of-steps n low = grind arith

-- some sides' bits and no other reach the ports of these sides
pub io_where-ports : (x : ℕ) → x ≢ 0 → x % 16 ≡ 0 → io_where x ≡ Ports (sides_with x)
io_where-ports x some sides = grind arith

-- no bit at all, or some low bit unless it is only that of io, reaches nothing
pub io_where-nothing : (x : ℕ) → x ≢ 8 → (x ≢ 0 → x % 16 ≢ 0) → io_where x ≡ Unmapped
io_where-nothing x other none = grind arith

reached : (left up : Bool) → let bits =
    0x80 + 0x40 + (if left then 0 else 0x20) + (if up then 0 else 0x10) in
    where_is (bit_xor 0x155 bits) ≡ Ports (sides_with bits)
reached true true = refl
reached true false = refl
reached false true = refl
reached false false = refl

-- the idle address of a node reaches the ports of the sides that it has
pub where_is-idle : (name : ℕ)
    → where_is (bit_xor 0x155 (sides_by_edge name)) ≡ Ports (sides_with (sides_by_edge name))
where_is-idle name =
    reached ((column_of name == 0) || (column_of name == 17))
    ((row_of name == 0) || (row_of name == 7))
