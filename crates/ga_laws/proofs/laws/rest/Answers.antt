use Rattle.ga_laws.proofs.Resting.{rest_lasts, run_rests}
use Rattle.ga_laws.proofs.laws.rest.Goals as goal

pub returns-clause-run : goal.returns-clause-run
returns-clause-run c = run_rests

pub returns-clause-lasts : goal.returns-clause-lasts
returns-clause-lasts c = rest_lasts
