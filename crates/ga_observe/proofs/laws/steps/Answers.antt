use Rattle.std.proofs.Common.{refl}
use Rattle.ga_chip.specs.Run.{ran, turns_of}
use Rattle.ga_observe.proofs.Moving.{steps_are_moves}
use Rattle.ga_observe.proofs.Watched.{plain_turns, turns_steps, unnumbered}
use Rattle.ga_observe.proofs.laws.steps.Goals as goal

pub returns-clause-moves : goal.returns-clause-moves
returns-clause-moves c = steps_are_moves

pub returns-clause-events : goal.returns-clause-events
returns-clause-events c = unnumbered

pub returns-clause-turns : goal.returns-clause-turns
returns-clause-turns c = plain_turns

pub returns-clause-next : goal.returns-clause-next
returns-clause-next c start count = turns_steps start (ran start (turns_of count)) count refl
