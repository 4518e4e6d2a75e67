use Rattle.ga_law_examples.proofs.Placed.{placed_unbroken}
use Rattle.ga_law_examples.proofs.rounds.ring_chip.Goals as goal

pub returns : goal.returns
returns c =
    placed_unbroken c.in-Ok.images c.in-Ok-placed_chip.chip c.in-Ok-placed_chip.ensures
