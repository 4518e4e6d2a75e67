use Rattle.std.proofs.Common.{◌≡◌, drop, map}
use Rattle.ga_disasm.specs.Disassembling.{item_view}
use Rattle.ga_lint.specs.PortWrites as spec
use Rattle.ga_lint.proofs.port_writes.first_in.Given as goal

-- all opcodes so far are fillers
abbrev pub invariant-loop-slot : goal.invariant-loop-slot
invariant-loop-slot l =
    spec.first_in (drop l.slot l.ops) (map item_view l.behind)
    ≡ spec.first_in l.ops (map item_view l.behind)
