use Rattle.std.proofs.Common.{◌≡◌, drop}
use Rattle.ga_lint.specs.ExtendedMode as spec
use Rattle.ga_lint.proofs.extended_mode.stays_on.Given as goal

-- no opcode so far decides it
abbrev pub invariant-loop-op : goal.invariant-loop-op
invariant-loop-op l = spec.stays_on (drop l.op-index l.ops) ≡ spec.stays_on l.ops
