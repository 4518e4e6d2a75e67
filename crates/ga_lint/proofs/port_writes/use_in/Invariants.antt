use Rattle.std.proofs.Common.{◌≡◌, drop}
use Rattle.ga_lint.specs.PortWrites as spec
use Rattle.ga_lint.proofs.port_writes.use_in.Given as goal

-- no opcode so far decides it
abbrev pub invariant-loop-op : goal.invariant-loop-op
invariant-loop-op l =
    spec.use_in l.is_b (drop l.op-index l.ops) ≡ spec.use_in l.is_b l.ops
