use Rattle.std.proofs.Common.{◌≡◌, drop, map}
use Rattle.ga_disasm.specs.Disassembling.{item_view}
use Rattle.ga_lint.specs.LeafReturns as spec
use Rattle.ga_lint.proofs.leaf_returns.is_led_to_by.Given as goal

-- no word so far goes there so
abbrev pub invariant-loop-at : goal.invariant-loop-at
invariant-loop-at l =
    spec.is_led_to_by l.by_call l.address l.at (map item_view (drop l.at l.words))
    ≡ spec.is_led_to_by l.by_call l.address 0 (map item_view l.words)
