-- What the words of a node read as, with labels for destinations.
use Rattle.std.specs.Prelude.{ℕ, ◌+◌, ◌-◌, ◌*◌, ◌/◌, List, [], ◌∷◌, ◌++◌, codes, length, map, Option, Some, None}
use Rattle.std.specs.Option.{option_map_or}
use Rattle.ga_word.specs.declared.op.Op.{Op}
use Rattle.ga_word.specs.Op.{name_of}
use Rattle.ga_pack.specs.Slots.{dest_bound}
use Rattle.ga_pack.specs.Model.Layout.{Labels, p_behind}
use Rattle.ga_asm.specs.Image.{label_at}
use Rattle.ga_disasm.specs.Disassembling.{ItemView, Code}
use Rattle.ga_disasm.specs.Printing.{item_line, line, number_text, spare_texts}

-- The address that a destination means which the last of these opcodes of the word at an address
-- takes: the destination replaces the low bits of P, as many as it has. The last opcode is no `@p`
-- or `!p`, so P behind it is P in its slot.
abbrev pub target : ℕ → List Op → ℕ → ℕ
target address ops dest =
    let bound = dest_bound (length ops - 1) in p_behind address ops / bound * bound + dest

-- a destination: the label of the address that it means, or else its field
abbrev pub dest_text : Labels → ℕ → ℕ → List ℕ
dest_text labels address dest =
    option_map_or (λ name. name) (label_at labels address) (number_text dest)

abbrev pub dest_texts : Labels → ℕ → List Op → Option ℕ → ℕ → List (List ℕ)
dest_texts labels address ops None spare = []
dest_texts labels address ops (Some dest) spare =
    dest_text labels (target address ops dest) dest ∷ spare_texts spare

-- The line of the word at an address: as the disassembler writes it, except that a destination that
-- means the address of a label is shown as the label.
abbrev pub reading_line : Labels → ℕ → ItemView → List ℕ
reading_line labels address (Code reading) =
    line (codes "[") (map name_of reading.ops
    ++ dest_texts labels address reading.ops reading.dest reading.spare ++ codes "]" ∷ [])
reading_line labels address item = item_line item
