use Rattle.std.proofs.Common.{◌≡◌, ◌<◌, ◌≤◌, get_or, length, ℕ}
use Rattle.ga_trace.specs.Depth.{BOTH_EMPTY}
use Rattle.ga_trace.specs.inner.AllDepths.{deepened}
use Rattle.ga_trace.specs.inner.LastSteps.{NO_STEP}
use Rattle.ga_trace.proofs.all_nodes.add_steps.Given as goal

-- as many nodes have their steps
abbrev pub invariant-loop-index : goal.invariant-loop-index
invariant-loop-index l = record {
  all : length l.depths.items ≡ 144;
  each : (at : ℕ) → at < l.index → get_or l.depths.items at BOTH_EMPTY
      ≡ deepened (get_or l.last.nodes.items at NO_STEP)
      (get_or l.initial.depths.items at BOTH_EMPTY);
  rest : (at : ℕ) → l.index ≤ at → get_or l.depths.items at BOTH_EMPTY
      ≡ get_or l.initial.depths.items at BOTH_EMPTY;
}
