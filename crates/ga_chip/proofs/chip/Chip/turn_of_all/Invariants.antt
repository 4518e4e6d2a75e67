use Rattle.ga_chip.proofs.Turns.{InTurn}
use Rattle.ga_chip.proofs.chip.Chip.turn_of_all.Given as goal

abbrev pub invariant-loop-index : goal.invariant-loop-index
invariant-loop-index l = InTurn l.fn.self l.self l.fn.side l.index l.moved
