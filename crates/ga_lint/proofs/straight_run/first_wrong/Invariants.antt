use Rattle.std.proofs.Common.{◌≡◌, ◌+◌, ◌≤◌, Some, drop, map}
use Rattle.ga_disasm.specs.Disassembling.{item_view}
use Rattle.ga_lint.specs.StraightRun as spec
use Rattle.ga_lint.proofs.straight_run.first_wrong.Given as goal

-- what is left of the run
abbrev pub invariant-loop-index : goal.invariant-loop-index
invariant-loop-index l =
    (spec.first_wrong l.kind (l.start + l.index) (Some l.count)
    (map item_view (drop l.index l.words))
    ≡ spec.first_wrong l.kind l.start (Some 0) (map item_view l.words)) × (l.count ≤ 10)
