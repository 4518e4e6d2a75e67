-- Faults and followers that were worked out by hand.
use Rattle.std.proofs.Common.{◌≡◌, [], ◌∷◌, Some, None, refl}
use Rattle.ga_word.specs.declared.op.Op.TheVariants.{Return, Execute, Jump, Micronext, FetchP, FetchPlus, StoreP, StorePlus, Drop, Dup, Nop, AStore}
use Rattle.ga_pack.specs.Encoding.{pack_fault}
use Rattle.ga_pack.specs.Followers.{followers}
use Rattle.ga_pack.specs.declared.encoding.PackError.TheVariants.{Shape, Slot3, Dest, Spare}

-- three opcodes and no destination; none at all
shapes : (pack_fault (Dup ∷ Dup ∷ Dup ∷ []) None 0 ≡ Some Shape)
    × (pack_fault [] None 0 ≡ Some Shape)
    × (pack_fault [] (Some 0) 0 ≡ Some Shape)
    -- `dup dup dup jump`, with a destination and without
    × (pack_fault (Dup ∷ Dup ∷ Dup ∷ Jump ∷ []) (Some 0) 0 ≡ Some Shape)
    × (pack_fault (Dup ∷ Dup ∷ Dup ∷ Jump ∷ []) None 0 ≡ Some Shape)
    -- `jump 0 dup`, `jump` without a destination, `dup` with one, and five opcodes
    × (pack_fault (Jump ∷ Dup ∷ []) (Some 0) 0 ≡ Some Shape)
    × (pack_fault (Jump ∷ Jump ∷ []) (Some 0) 0 ≡ Some Shape)
    × (pack_fault (Jump ∷ []) None 0 ≡ Some Shape)
    × (pack_fault (Dup ∷ Dup ∷ Dup ∷ Dup ∷ []) (Some 0) 0 ≡ Some Shape)
    × (pack_fault (Dup ∷ Dup ∷ Dup ∷ Dup ∷ Dup ∷ []) None 0 ≡ Some Shape)
unfolding pack_fault
shapes = (refl, refl, refl, refl, refl, refl, refl, refl, refl, refl)

-- `dup dup dup drop`, whatever the spare bits
slots : (pack_fault (Dup ∷ Dup ∷ Dup ∷ Drop ∷ []) None 0 ≡ Some Slot3)
    × (pack_fault (Dup ∷ Dup ∷ Dup ∷ Drop ∷ []) None 9 ≡ Some Slot3)
unfolding pack_fault
slots = (refl, refl)

-- the first number over the width of a destination behind slot 0, 1 and 2
dests : (pack_fault (Jump ∷ []) (Some 0x400) 0 ≡ Some Dest)
    × (pack_fault (Dup ∷ Jump ∷ []) (Some 0x100) 0 ≡ Some Dest)
    × (pack_fault (Dup ∷ Dup ∷ Jump ∷ []) (Some 8) 0 ≡ Some Dest)
    × (pack_fault (Jump ∷ []) (Some 0x400) 8 ≡ Some Dest)
unfolding pack_fault
dests = (refl, refl, refl, refl)

-- spare bits of four bits, and any if slot 0 takes no destination
spares : (pack_fault (Jump ∷ []) (Some 0) 8 ≡ Some Spare)
    × (pack_fault (Dup ∷ Jump ∷ []) (Some 0) 1 ≡ Some Spare)
    × (pack_fault (Dup ∷ Dup ∷ Dup ∷ Dup ∷ []) None 1 ≡ Some Spare)
unfolding pack_fault
spares = (refl, refl, refl)

-- the greatest numbers that are accepted
accepted : (pack_fault (Jump ∷ []) (Some 0x3FF) 7 ≡ None)
    × (pack_fault (Dup ∷ Jump ∷ []) (Some 0xFF) 0 ≡ None)
    × (pack_fault (Dup ∷ Drop ∷ Jump ∷ []) (Some 7) 0 ≡ None)
    × (pack_fault (Dup ∷ Dup ∷ Dup ∷ Dup ∷ []) None 0 ≡ None)
unfolding pack_fault
accepted = (refl, refl, refl, refl)

-- `; @p . .` has no follower, `@p a! @p .` has two, and `@p jump` one; `unext` does not end a word
counts : (followers (Return ∷ FetchP ∷ Nop ∷ Nop ∷ []) ≡ 0)
    × (followers (FetchP ∷ AStore ∷ FetchP ∷ Nop ∷ []) ≡ 2)
    × (followers (FetchP ∷ Jump ∷ []) ≡ 1)
    × (followers (FetchP ∷ Micronext ∷ StoreP ∷ Execute ∷ []) ≡ 2)
    × (followers (FetchP ∷ StoreP ∷ FetchP ∷ StoreP ∷ []) ≡ 4)
    -- at A they have none
    × (followers (FetchPlus ∷ StorePlus ∷ Dup ∷ Nop ∷ []) ≡ 0)
counts = (refl, refl, refl, refl, refl, refl)
