use Rattle.std.specs.Prelude.{[]}
use Rattle.ga_observe.proofs.step_counts.count_steps.Goals as goal

pub returns-clause-counts : goal.returns-clause-counts
returns-clause-counts c = c.turns-moved.ensures.seen c.new-counts.result [] c.new-counts.ensures
