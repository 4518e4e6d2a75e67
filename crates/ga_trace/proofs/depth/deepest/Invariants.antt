use Rattle.std.proofs.Common.{◌≡◌, ◌-◌, ◌≤◌}
use Rattle.ga_trace.specs.Depth.{BOTH_EMPTY, deep_from, has_made}
use Rattle.ga_trace.proofs.depth.deepest.Given as goal

-- the depths behind the turns that are left are those of all
abbrev pub invariant-loop-number : goal.invariant-loop-number
invariant-loop-number l = record {
  deep : deep_from (l.most - l.number) l.number l.quiet (has_made l.goal) l.node l.depths l.chip
      ≡ deep_from l.most 0 0 (has_made l.goal) l.node BOTH_EMPTY l.initial.chip;
  quiet : l.quiet ≤ 4;
}
