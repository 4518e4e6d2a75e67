use Rattle.std.proofs.Common.{◌≡◌, drop}
use Rattle.ga_lint.specs.Reaching as spec
use Rattle.ga_lint.proofs.reaching.goes_on.Given as goal

-- no opcode so far decides it
abbrev pub invariant-loop-op : goal.invariant-loop-op
invariant-loop-op l =
    spec.goes_on l.has_b (drop l.op-index l.ops) ≡ spec.goes_on l.has_b l.ops
