use Rattle.std.proofs.Common.{◌≡◌, drop}
use Rattle.ga_lint.specs.UnextRepeats as spec
use Rattle.ga_lint.proofs.unext_repeats.has_unext.Given as goal

-- no opcode so far decides it
abbrev pub invariant-loop-op : goal.invariant-loop-op
invariant-loop-op l = spec.has_unext (drop l.op-index l.ops) ≡ spec.has_unext l.ops
