use Rattle.std.proofs.Common.{◌≡◌, None, drop, map}
use Rattle.ga_disasm.specs.Disassembling.{item_view}
use Rattle.ga_lint.specs.PortWrites as spec
use Rattle.ga_lint.proofs.port_writes.is_written_next.Given as goal

-- what is left of the words
abbrev pub invariant-loop-index : goal.invariant-loop-index
invariant-loop-index l =
    spec.is_written_next None (map item_view (drop l.index l.words))
    ≡ spec.is_written_next None (map item_view l.words)
