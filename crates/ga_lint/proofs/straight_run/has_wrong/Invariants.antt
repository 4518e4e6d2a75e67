use Rattle.std.proofs.Common.{◌≡◌, ◌≤◌, drop}
use Rattle.ga_lint.specs.StraightRun as spec
use Rattle.ga_lint.proofs.straight_run.has_wrong.Given as goal

-- what is left of the run
abbrev pub invariant-loop-op : goal.invariant-loop-op
invariant-loop-op l =
    (spec.has_wrong l.kind l.count (drop l.op-index l.ops)
    ≡ spec.has_wrong l.kind l.pushed l.ops) × (l.count ≤ 10)
