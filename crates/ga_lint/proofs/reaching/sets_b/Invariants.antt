use Rattle.std.proofs.Common.{◌≡◌, drop, map}
use Rattle.std.specs.List.{list_any}
use Rattle.ga_disasm.specs.Disassembling.{item_view}
use Rattle.ga_lint.specs.Reaching as spec
use Rattle.ga_lint.proofs.reaching.sets_b.Given as goal

-- no word so far sets it
abbrev pub invariant-loop-word : goal.invariant-loop-word
invariant-loop-word l =
    list_any spec.sets_b_in (map item_view (drop l.word-index l.words))
    ≡ list_any spec.sets_b_in (map item_view l.words)
