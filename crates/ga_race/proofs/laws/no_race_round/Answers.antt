use Rattle.ga_race.proofs.laws.no_race_round.Goals as goal
use Rattle.ga_race.proofs.Rounds as rounds
use Rattle.ga_race.proofs.Fair as fair

pub returns-clause-round : goal.returns-clause-round
returns-clause-round c = rounds.no_race_round

pub returns-clause-determinate : goal.returns-clause-determinate
returns-clause-determinate c = fair.round_is_determinate
