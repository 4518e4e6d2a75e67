use Rattle.ga_trace.proofs.FirstSteps.{are_shown}
use Rattle.ga_trace.proofs.laws.first_steps.Goals as goal

pub returns : goal.returns
returns c = are_shown
