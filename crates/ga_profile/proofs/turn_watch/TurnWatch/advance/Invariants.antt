use Rattle.std.proofs.Common.{ℕ}
use Rattle.ga_chip.specs.Chip.{Chip}
use Rattle.ga_trace.specs.Spinning.{Watches}
use Rattle.ga_profile.specs.HasRun.{HasRun}
use Rattle.ga_profile.proofs.turn_watch.TurnWatch.advance.Given as goal

-- the run has made as many turns
abbrev pub invariant-loop-number : goal.invariant-loop-number
invariant-loop-number l = record {
  known : Watches l.chip l.self.spins;
  run : (from : ℕ) (start : Chip) → HasRun from start l.first l.initial.chip l.initial.self
      → HasRun from start l.number l.chip l.self;
}
