use Rattle.std.proofs.Common.{◌≡◌, ◌-◌, ◌++◌, drop, map}
use Rattle.ga_disasm.specs.Disassembling.{items_from, items_of, item_view}
use Rattle.ga_disasm.proofs.disassembling.items.Given as goal

-- the items so far, and those of the words that are left
abbrev pub invariant-loop-index : goal.invariant-loop-index
invariant-loop-index l =
    map item_view l.items.items ++ items_from l.owed (l.code_len - l.index) (drop l.index l.words)
    ≡ items_of l.code_len l.words
