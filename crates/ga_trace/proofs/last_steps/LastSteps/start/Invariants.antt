use Rattle.std.proofs.Common.{◌≡◌, ◌<◌, get_or, ℕ}
use Rattle.ga_place.specs.Cell.{name_at}
use Rattle.ga_trace.specs.inner.LastSteps.{NO_STEP, started}
use Rattle.ga_trace.proofs.last_steps.LastSteps.start.Given as goal

-- as many nodes have started
abbrev pub invariant-loop-index : goal.invariant-loop-index
invariant-loop-index l =
    (at : ℕ) → at < l.index → get_or l.self.nodes.items at NO_STEP ≡ started l.chip (name_at at)
