use Rattle.ga_chip.specs.Run.{side_of_turn}
use Rattle.ga_trace.proofs.Spinning.{watches_turn}
use Rattle.ga_trace.proofs.laws.known_spins.Goals as goal

pub returns : goal.returns
returns c chip turn watch = watches_turn chip (side_of_turn turn) watch
