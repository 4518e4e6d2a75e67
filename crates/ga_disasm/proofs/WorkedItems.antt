-- Items and texts that were worked out by hand.
use Rattle.std.proofs.Common.{◌≡◌, [], ◌∷◌, None, Some, refl}
use Rattle.std.specs.Prelude.{codes}
use Rattle.std.specs.Fmt.{digits}
use Rattle.ga_word.specs.Hex.{hex_digits}
use Rattle.ga_word.specs.Op.{op_with}
use Rattle.ga_word.specs.declared.op.Op.TheVariants.{FetchP, StorePlus, Micronext, Nop, Jump, Return, Dup, Drop}
use Rattle.ga_pack.specs.Decoded.{reading_of}
use Rattle.ga_pack.specs.Model.Layout.{Alone, Shared}
use Rattle.ga_pack.specs.Model.Source as source
use Rattle.ga_disasm.specs.Instructions.{named_items}
use Rattle.ga_disasm.specs.Disassembling.{ItemView, Code, Follower, Data, items_from, items_of}
use Rattle.ga_disasm.specs.Printing.{text_of}

-- `[ @p !+ unext . ]` with its follower, and a word of data
abbrev fill : ItemView
fill = Code (record { ops = FetchP ∷ StorePlus ∷ Micronext ∷ Nop ∷ []; dest = None; spare = 0 })

code_and_data :
    (items_of 2 (0x05872 ∷ 0x2C9B2 ∷ 0x00001 ∷ []) ≡ fill ∷ Follower 0x2C9B2 ∷ Data 1 ∷ [])
    -- the code part ends before the follower
    × (items_of 1 (0x05872 ∷ 0x2C9B2 ∷ 0x00001 ∷ []) ≡ fill ∷ Data 0x2C9B2 ∷ Data 1 ∷ [])
    -- no word is code
    × (items_of 0 (0x05872 ∷ []) ≡ Data 0x05872 ∷ [])
unfolding items_from reading_of op_with
code_and_data = (refl, refl, refl)

code_and_data-text : (text_of (fill ∷ Follower 0x2C9B2 ∷ Data 1 ∷ [])
    ≡ codes "[ @p !+ unext . ]\n, $2C9B2\ndata\n, $00001\n") × (text_of
    (fill ∷ Data 0x2C9B2 ∷ Data 1 ∷ []) ≡ codes "[ @p !+ unext . ]\ndata\n, $2C9B2\n, $00001\n")
unfolding text_of hex_digits
code_and_data-text = (refl, refl)

-- the spare bits of a jump
spare_bits : items_of 1 (0x10BD5 ∷ [])
    ≡ Code (record { ops = Jump ∷ []; dest = Some 0x3D5; spare = 2 }) ∷ []
unfolding items_from reading_of op_with
spare_bits = refl

spare_bits-text : text_of (Code (record { ops = Jump ∷ []; dest = Some 0x3D5; spare = 2 }) ∷ [])
    ≡ codes "[ jump $003D5 / 2 ]\n"
unfolding text_of hex_digits digits
spare_bits-text = refl

-- an `@p` behind `;` has no follower: `; @p . .`, and then another word of code
behind_return : items_of 2 (0x15DB2 ∷ 0x2C9B2 ∷ [])
    ≡ Code (record { ops = Return ∷ FetchP ∷ Nop ∷ Nop ∷ []; dest = None; spare = 0 })
    ∷ Code (record { ops = Nop ∷ Nop ∷ Nop ∷ Nop ∷ []; dest = None; spare = 0 }) ∷ []
unfolding items_from reading_of op_with
behind_return = refl

-- `dup drop 5 data , 7` are `dup drop @p .` with its follower, and data
named : named_items [] (Shared (source.Instruction Dup) (source.Instruction Drop ∷ source.Literal 5
    ∷ []) ∷ Alone source.Data ∷ Alone (source.Plain (source.Number 7)) ∷ [])
    ≡ Code (record { ops = Dup ∷ Drop ∷ FetchP ∷ Nop ∷ []; dest = None; spare = 0 }) ∷ Follower 5
    ∷ Data 7 ∷ []
unfolding named_items
named = refl
