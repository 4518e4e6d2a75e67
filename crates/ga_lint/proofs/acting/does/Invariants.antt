use Rattle.std.proofs.Common.{◌≡◌, drop, false, map}
use Rattle.ga_disasm.specs.Disassembling.{item_view}
use Rattle.ga_lint.specs.Acting as spec
use Rattle.ga_lint.specs.inner.NodeText.{node_of}
use Rattle.ga_lint.proofs.acting.does.Given as goal

-- no word so far does it
abbrev pub invariant-loop-at : goal.invariant-loop-at
invariant-loop-at l =
    spec.does_from (node_of l.node) l.act l.has_b l.comes l.at
    (map item_view (drop l.at l.node.words.now))
    ≡ spec.does_from (node_of l.node) l.act l.has_b false 0 (map item_view l.node.words.now)
