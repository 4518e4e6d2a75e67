use Rattle.std.proofs.Common.{◌≡◌, ◌+◌, ◌≤◌, drop, false, map}
use Rattle.ga_disasm.specs.Disassembling.{item_view}
use Rattle.ga_lint.specs.PortWrites as spec
use Rattle.ga_lint.specs.inner.NodeText.{node_of}
use Rattle.ga_lint.proofs.port_writes.writes_refused.Given as goal

-- what is left of the word
abbrev pub invariant-loop-slot : goal.invariant-loop-slot
invariant-loop-slot l =
    (spec.writes_refused l.refused (node_of l.node) l.p l.held (drop l.slot l.ops)
    (map item_view l.behind)
    ≡ spec.writes_refused l.refused (node_of l.node) l.first false l.ops (map item_view l.behind))
    × (l.p ≤ l.first + l.slot)
