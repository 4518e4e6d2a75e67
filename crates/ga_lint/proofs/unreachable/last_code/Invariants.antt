use Rattle.std.proofs.Common.{◌≡◌, None, drop, map}
use Rattle.ga_disasm.specs.Disassembling.{item_view}
use Rattle.ga_lint.specs.Unreachable as spec
use Rattle.ga_lint.proofs.unreachable.last_code.Given as goal

-- what is found in the words that are left
abbrev pub invariant-loop-at : goal.invariant-loop-at
invariant-loop-at l =
    spec.last_code l.found l.at (map item_view (drop l.at l.words))
    ≡ spec.last_code None 0 (map item_view l.words)
