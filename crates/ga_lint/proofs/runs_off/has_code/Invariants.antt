use Rattle.std.proofs.Common.{◌≡◌, drop, map}
use Rattle.std.specs.List.{list_any}
use Rattle.ga_disasm.specs.Disassembling.{item_view}
use Rattle.ga_lint.specs.Reaching as spec
use Rattle.ga_lint.proofs.runs_off.has_code.Given as goal

-- no word so far is code
abbrev pub invariant-loop-word : goal.invariant-loop-word
invariant-loop-word l =
    list_any spec.is_code (map item_view (drop l.word-index l.words))
    ≡ list_any spec.is_code (map item_view l.words)
