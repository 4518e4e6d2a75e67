use Rattle.std.proofs.Common.{◌≡◌, None, drop, map}
use Rattle.ga_disasm.specs.Disassembling.{item_view}
use Rattle.ga_lint.specs.PortWrites as spec
use Rattle.ga_lint.proofs.port_writes.is_written_in.Given as goal

-- what is left of the words
abbrev pub invariant-loop-word : goal.invariant-loop-word
invariant-loop-word l =
    spec.is_written_in l.is_b None (map item_view (drop l.word-index l.words))
    ≡ spec.is_written_in l.is_b None (map item_view l.words)
