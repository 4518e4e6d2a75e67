use Rattle.std.proofs.Common.{◌≡◌, drop}
use Rattle.ga_lint.specs.CodeWrites as spec
use Rattle.ga_lint.proofs.code_writes.set_in.Given as goal

-- no opcode so far decides it
abbrev pub invariant-loop-op : goal.invariant-loop-op
invariant-loop-op l = spec.set_in (drop l.op-index l.ops) ≡ spec.set_in l.ops
