use Rattle.ga_race.proofs.laws.no_race_spinning.Goals as goal
use Rattle.ga_node.proofs.Uncounted as uncounted
use Rattle.ga_race.proofs.Spinning as spinning

pub returns-clause-still : goal.returns-clause-still
returns-clause-still c = uncounted.still_spins

pub returns-clause-spinning : goal.returns-clause-spinning
returns-clause-spinning c = spinning.no_race_spinning
