use Rattle.std.proofs.Common.{◌≡◌, ◌≤◌, drop}
use Rattle.ga_lint.specs.StraightRun as spec
use Rattle.ga_lint.proofs.straight_run.count_after.Given as goal

-- what is left of the run
abbrev pub invariant-loop-op : goal.invariant-loop-op
invariant-loop-op l =
    (spec.count_after l.kind l.count (drop l.op-index l.ops)
    ≡ spec.count_after l.kind l.pushed l.ops) × (l.count ≤ 10)
