-- A race shows two ways.
use Rattle.ga_race.proofs.Differs as differs
use Rattle.ga_race.proofs.laws.race.Goals as goal

pub returns-clause-differs : goal.returns-clause-differs
returns-clause-differs c = differs.race_differs

pub returns-clause-tries : goal.returns-clause-tries
returns-clause-tries c = differs.tries_differ
