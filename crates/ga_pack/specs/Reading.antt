-- How a word of 18 bits spells its opcodes and the destination of the last one.
--
-- A word is the list of its bits, bit 17 first. Slot 0 is bits 17..13, slot 1 bits 12..8, slot 2
-- bits 7..3, and slot 3 bits 2..0. So a word is spelled slot by slot, and a destination fills what
-- is left of it behind the slot of its opcode.
use Rattle.std.specs.Prelude.{◌≡◌, ℕ, ◌+◌, ◌*◌, ◌%◌, ◌^◌, ◌<◌, true, false, List, [], ◌∷◌, ◌++◌, take, drop, Option, Some, None}
use Rattle.ga_word.specs.declared.op.Op.{Op}
use Rattle.ga_word.specs.Op.{code_of, fits_slot3, takes_dest}
use Rattle.ga_word.specs.Word.{bits}

-- the exclusive-or of two lists, bit by bit
unfoldable pub xor_bits : List ℕ → List ℕ → List ℕ
xor_bits (a ∷ xs) (b ∷ ys) = (a + b) % 2 ∷ xor_bits xs ys
xor_bits _ _ = []

-- The bits of the key at the places of a slot. The key is the word 15555 (hexadecimal). Slots 0, 1
-- and 2 have five bits each, from bit 17 down, and slot 3 has the three that are left.
unfoldable pub slot_key : ℕ → List ℕ
slot_key slot = take 5 (drop (5 * slot) (bits 18 0x1_5555))

-- an opcode as slot 0, 1 or 2 stores it: the five bits of its code, in exclusive-or with the slot's
-- key
unfoldable pub stored : ℕ → Op → List ℕ
stored slot op = xor_bits (bits 5 (code_of op)) (slot_key slot)

-- an opcode as slot 3 stores it: the upper three of these five bits, in exclusive-or with that
-- slot's key
unfoldable pub stored_upper : Op → List ℕ
stored_upper op = xor_bits (take 3 (bits 5 (code_of op))) (slot_key 3)

-- A word reads as these opcodes, in the order of their slots, with this destination of the last
-- one, and with this number in its spare bits, which are ignored when the word is run. The first
-- opcode that takes a destination is the last one. A destination is stored as it is, with no key.
pub data Reads : List ℕ → List Op → Option ℕ → ℕ → Type 0 where
  -- The opcode of slot 0 takes a destination of ten bits, and bits 12..10 in front of it are spare.
  dest_after_slot0 : (op : Op) (spare dest : ℕ) → takes_dest op ≡ true → spare < 2 ^ 3
      → dest < 2 ^ 10
      → Reads (stored 0 op ++ bits 3 spare ++ bits 10 dest) (op ∷ []) (Some dest) spare
  -- The opcode of slot 1 is the first to take one, of eight bits. No bit is spare.
  dest_after_slot1 : (a op : Op) (dest : ℕ) → takes_dest a ≡ false → takes_dest op ≡ true
      → dest < 2 ^ 8 → Reads (stored 0 a ++ stored 1 op ++ bits 8 dest) (a ∷ op ∷ []) (Some dest) 0
  -- The opcode of slot 2 is the first to take one, of the three bits of slot 3.
  dest_after_slot2 : (a b op : Op) (dest : ℕ) → takes_dest a ≡ false → takes_dest b ≡ false
      → takes_dest op ≡ true → dest < 2 ^ 3
      → Reads (stored 0 a ++ stored 1 b ++ stored 2 op ++ bits 3 dest)
      (a ∷ b ∷ op ∷ []) (Some dest) 0
  -- None of the first three takes one, so slot 3 holds a fourth opcode, the lower two bits of whose
  -- code are 0. (Each opcode that takes a destination has one of these bits set.)
  no_dest : (a b c d : Op) → takes_dest a ≡ false → takes_dest b ≡ false → takes_dest c ≡ false
      → fits_slot3 d ≡ true
      → Reads (stored 0 a ++ stored 1 b ++ stored 2 c ++ stored_upper d) (a ∷ b ∷ c ∷ d ∷ []) None 0
