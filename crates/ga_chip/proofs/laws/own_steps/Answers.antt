use Rattle.ga_chip.proofs.laws.own_steps.Goals as goal
use Rattle.ga_chip.proofs.AheadOwn as own

pub returns-clause-tries : goal.returns-clause-tries
returns-clause-tries c = own.own_try

pub returns-clause-commutes : goal.returns-clause-commutes
returns-clause-commutes c = own.own_commutes
