use Rattle.std.proofs.Common.{◌≡◌, drop, map}
use Rattle.ga_disasm.specs.Disassembling.{item_view}
use Rattle.ga_lint.specs.ExtendedMode as spec
use Rattle.ga_lint.proofs.extended_mode.is_led_to.Given as goal

-- no word so far leads there
abbrev pub invariant-loop-at : goal.invariant-loop-at
invariant-loop-at l =
    spec.is_led_to l.known l.address l.at (map item_view (drop l.at l.words))
    ≡ spec.is_led_to l.known l.address 0 (map item_view l.words)
