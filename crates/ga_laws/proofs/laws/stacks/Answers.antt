use Rattle.ga_laws.proofs.Stacking.{step_keeps_words}
use Rattle.ga_laws.proofs.Staying.{words_stay}
use Rattle.ga_laws.proofs.laws.stacks.Goals as goal

pub returns-clause-step : goal.returns-clause-step
returns-clause-step c = step_keeps_words

pub returns-clause-run : goal.returns-clause-run
returns-clause-run c = words_stay
