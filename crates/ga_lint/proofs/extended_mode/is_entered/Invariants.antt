use Rattle.std.proofs.Common.{◌≡◌, drop, map}
use Rattle.std.specs.List.{list_any}
use Rattle.ga_disasm.specs.Disassembling.{item_view}
use Rattle.ga_lint.specs.ExtendedMode as spec
use Rattle.ga_lint.proofs.extended_mode.is_entered.Given as goal

-- no word so far enters it there
abbrev pub invariant-loop-word : goal.invariant-loop-word
invariant-loop-word l =
    list_any (spec.enters_at l.address) (map item_view (drop l.word-index l.words))
    ≡ list_any (spec.enters_at l.address) (map item_view l.words)
