-- Sizes of nodes, each worked out by hand.
use Rattle.std.proofs.Common.{◌≡◌, [], ◌∷◌, map, refl}
use Rattle.std.specs.Prelude.{codes}
use Rattle.std.specs.List.{range_with_len}
use Rattle.ga_word.specs.declared.op.Op.TheVariants as the
use Rattle.ga_pack.specs.Model.Layout.{fits}
use Rattle.ga_pack.specs.Model.Source.{Data, Here, Instruction, Label, Literal, Number, Plain, Transfer, Word}
use Rattle.ga_hints.specs.Size.{size_of}

-- behind three words of code five words of data
code_and_data :
    size_of (Word (the.Nop ∷ []) ∷ Word (the.Nop ∷ []) ∷ Word (the.Nop ∷ []) ∷ Data
    ∷ map (λ n. Plain (Number n)) (range_with_len 0 5)) ≡ record { code = 3; «data» = 5 }
unfolding size_of fits
code_and_data = refl

-- `again: 5 !b jump again` is a word and the number behind it
shared : size_of (Here (codes "again") ∷ Literal 5 ∷ Instruction the.StoreB
    ∷ Transfer the.Jump (Label (codes "again")) ∷ []) ≡ record { code = 2; «data» = 0 }
unfolding size_of fits
shared = refl

-- the fifth opcode begins a word, and so does `push`, which slot 3 has no room for
not_shared : size_of (Instruction the.Dup ∷ Instruction the.Dup ∷ Instruction the.Dup
    ∷ Instruction the.Push ∷ Instruction the.Dup ∷ Instruction the.Dup ∷ Instruction the.Dup
    ∷ Instruction the.Dup ∷ []) ≡ record { code = 3; «data» = 0 }
unfolding size_of fits
not_shared = refl

-- there may be more words than a node has room for
too_many : size_of (Data ∷ map (λ n. Plain (Number n)) (range_with_len 0 66))
    ≡ record { code = 0; «data» = 66 }
unfolding size_of fits
too_many = refl
