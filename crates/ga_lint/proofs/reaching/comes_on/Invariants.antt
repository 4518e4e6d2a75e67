use Rattle.std.proofs.Common.{◌≡◌, drop, false, map}
use Rattle.ga_disasm.specs.Disassembling.{item_view}
use Rattle.ga_lint.specs.Reaching as spec
use Rattle.ga_lint.specs.inner.NodeText.{node_of}
use Rattle.ga_lint.proofs.reaching.comes_on.Given as goal

-- whether execution comes behind the words that are left
abbrev pub invariant-loop-at : goal.invariant-loop-at
invariant-loop-at l =
    spec.comes_behind (node_of l.node) l.has_b l.comes l.at (map item_view (drop l.at l.words))
    ≡ spec.comes_behind (node_of l.node) l.has_b false 0 (map item_view l.words)
