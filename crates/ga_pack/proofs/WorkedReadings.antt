-- The readings of words that were worked out by hand.
use Rattle.std.proofs.Common.{[], ◌∷◌, Some, None, refl, lit<}
use Rattle.ga_word.specs.Word.{bits}
use Rattle.ga_word.specs.declared.op.Op.TheVariants.{Return, Jump, Call, FetchP, Drop, Dup, Nop, AStore}
use Rattle.ga_pack.specs.Reading.{Reads, dest_after_slot0, dest_after_slot1, dest_after_slot2, no_dest, slot_key, stored, stored_upper, xor_bits}

-- `dup jump 02A`
readings : Reads (bits 18 0x2_572A) (Dup ∷ Jump ∷ []) (Some 0x02A) 0
    -- `jump 1D5`
    × Reads (bits 18 0x1_01D5) (Jump ∷ []) (Some 0x1D5) 0
    -- `call 001`
    × Reads (bits 18 0x1_2001) (Call ∷ []) (Some 0x001) 0
    -- `. . . .`
    × Reads (bits 18 0x2_C9B2) (Nop ∷ Nop ∷ Nop ∷ Nop ∷ []) None 0
    -- `@p a! @p .`
    × Reads (bits 18 0x0_4A12) (FetchP ∷ AStore ∷ FetchP ∷ Nop ∷ []) None 0
    -- `dup dup dup .`
    × Reads (bits 18 0x2_4D92) (Dup ∷ Dup ∷ Dup ∷ Nop ∷ []) None 0
    -- `drop . . .`
    × Reads (bits 18 0x3_A9B2) (Drop ∷ Nop ∷ Nop ∷ Nop ∷ []) None 0
    -- `jump 3D5`, with bit 11 set, which is ignored
    × Reads (bits 18 0x1_0BD5) (Jump ∷ []) (Some 0x3D5) 2
    -- `dup dup dup ;`
    × Reads (bits 18 0x2_4D95) (Dup ∷ Dup ∷ Dup ∷ Return ∷ []) None 0
    -- `dup dup dup dup`
    × Reads (bits 18 0x2_4D93) (Dup ∷ Dup ∷ Dup ∷ Dup ∷ []) None 0
    -- `dup drop jump 2`
    × Reads (bits 18 0x2_4242) (Dup ∷ Drop ∷ Jump ∷ []) (Some 2) 0
unfolding bits stored slot_key xor_bits stored_upper
readings = (
  dest_after_slot1 Dup Jump 0x02A refl refl (lit< tt),
  dest_after_slot0 Jump 0 0x1D5 refl (lit< tt) (lit< tt),
  dest_after_slot0 Call 0 0x001 refl (lit< tt) (lit< tt),
  no_dest Nop Nop Nop Nop refl refl refl refl,
  no_dest FetchP AStore FetchP Nop refl refl refl refl,
  no_dest Dup Dup Dup Nop refl refl refl refl,
  no_dest Drop Nop Nop Nop refl refl refl refl,
  dest_after_slot0 Jump 2 0x3D5 refl (lit< tt) (lit< tt),
  no_dest Dup Dup Dup Return refl refl refl refl,
  no_dest Dup Dup Dup Dup refl refl refl refl,
  dest_after_slot2 Dup Drop Jump 2 refl refl refl (lit< tt),
)
