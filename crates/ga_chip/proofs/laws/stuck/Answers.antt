use Rattle.ga_chip.proofs.laws.stuck.Goals as goal
use Rattle.ga_chip.proofs.Closed as closed

pub returns : goal.returns
returns c = record { stuck = closed.stuck }
