use Rattle.std.proofs.Common.{◌≡◌, drop}
use Rattle.ga_lint.specs.UnextRepeats as spec
use Rattle.ga_lint.proofs.unext_repeats.repeats.Given as goal

-- no opcode so far decides it
abbrev pub invariant-loop-index : goal.invariant-loop-index
invariant-loop-index l = spec.repeats l.packed (drop l.index l.ops) ≡ spec.repeats l.packed l.ops
