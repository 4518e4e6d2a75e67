use Rattle.std.proofs.Common.{◌≡◌, None, drop, false, map}
use Rattle.ga_disasm.specs.Disassembling.{item_view}
use Rattle.ga_lint.specs.LeafReturns as spec
use Rattle.ga_lint.specs.inner.NodeText.{node_of}
use Rattle.ga_lint.proofs.leaf_returns.strays.Given as goal

-- no word so far has such a `;`
abbrev pub invariant-loop-at : goal.invariant-loop-at
invariant-loop-at l =
    spec.strays_from (node_of l.node) l.has_b l.comes l.depth l.at
    (map item_view (drop l.at l.node.words.now))
    ≡ spec.strays_from (node_of l.node) l.has_b false None 0 (map item_view l.node.words.now)
