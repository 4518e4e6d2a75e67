use Rattle.std.proofs.Common.{◌≡◌, None, drop, map}
use Rattle.ga_disasm.specs.Disassembling.{item_view}
use Rattle.ga_lint.specs.CodeWrites as spec
use Rattle.ga_lint.specs.inner.NodeText.{node_of}
use Rattle.ga_lint.proofs.code_writes.sets_ram_from.Given as goal

-- no word so far does so
abbrev pub invariant-loop-at : goal.invariant-loop-at
invariant-loop-at l =
    spec.sets_ram_from (node_of l.node) l.is_b l.at l.top
    (map item_view (drop l.at l.node.words.now))
    ≡ spec.sets_ram_from (node_of l.node) l.is_b 0 None (map item_view l.node.words.now)
