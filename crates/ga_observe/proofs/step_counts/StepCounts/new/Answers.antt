use Rattle.std.proofs.Common.{refl}
use Rattle.std.specs.Prelude.{replicate}
use Rattle.ga_observe.proofs.Counting.{no_counts}
use Rattle.ga_observe.proofs.step_counts.StepCounts.new.Goals as goal

pub returns : goal.returns
returns c = no_counts (replicate 144 0) refl
