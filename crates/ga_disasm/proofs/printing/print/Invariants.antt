use Rattle.std.proofs.Common.{◌≡◌, ◌++◌, false, drop, map, string_bytes}
use Rattle.ga_disasm.specs.Disassembling.{item_view}
use Rattle.ga_disasm.specs.Printing.{item_lines}
use Rattle.ga_disasm.proofs.printing.print.Given as goal

-- what is written, and the lines that are left
abbrev pub invariant-loop-item : goal.invariant-loop-item
invariant-loop-item l =
    string_bytes l.text ++ item_lines l.in_data (map item_view (drop l.item-index l.items))
    ≡ item_lines false (map item_view l.items)
