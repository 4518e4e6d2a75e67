use Rattle.std.proofs.Common.{◌≤◌}
use Rattle.ga_trace.specs.inner.AllDepths.{AreOnTheWay}
use Rattle.ga_trace.proofs.all_nodes.make_turns.Given as goal

-- the depths lead to those behind all turns
abbrev pub invariant-loop-number : goal.invariant-loop-number
invariant-loop-number l = record {
  way : AreOnTheWay l.most l.number l.quiet l.initial.chip l.chip l.initial.depths.items
      l.depths.items;
  quiet : l.quiet ≤ 4;
}
