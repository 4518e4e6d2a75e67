use Rattle.ga_race.proofs.Fitting.{FitsBelow}
use Rattle.ga_race.proofs.counts.counts_fit.Given as goal

abbrev pub invariant-loop-index : goal.invariant-loop-index
invariant-loop-index l = FitsBelow l.fn.chip l.index
