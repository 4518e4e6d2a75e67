use Rattle.ga_race.proofs.laws.no_race.Goals as goal
use Rattle.ga_race.proofs.Embedded as within
use Rattle.ga_race.proofs.Spinning as spinning

pub returns-clause-within : goal.returns-clause-within
returns-clause-within c = within.no_race

pub returns-clause-at_rest : goal.returns-clause-at_rest
returns-clause-at_rest c = spinning.no_race_at_rest
