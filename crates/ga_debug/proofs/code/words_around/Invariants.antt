use Rattle.std.proofs.Common.{◌≡◌, ◌+◌, map, string_bytes}
use Rattle.std.specs.List.{flat_map, range_with_len}
use Rattle.ga_asm.specs.Image.{labels_of}
use Rattle.ga_disasm.specs.Disassembling.{item_view}
use Rattle.ga_debug.specs.Code.{word_line}
use Rattle.ga_debug.proofs.code.words_around.Given as goal

-- as many words are written
abbrev pub invariant-loop-index : goal.invariant-loop-index
invariant-loop-index l =
    string_bytes l.text
    ≡ flat_map (λ index. word_line (labels_of l.labels.entries) l.at l.ram (map item_view l.items)
    (l.first + index)) (range_with_len 0 l.index)
