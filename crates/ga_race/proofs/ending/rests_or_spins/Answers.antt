use Rattle.ga_race.proofs.EndingAll.{spins_here}
use Rattle.ga_race.proofs.ending.rests_or_spins.Goals as goal

pub returns-then-is_spinning : goal.returns-then-is_spinning
returns-then-is_spinning c =
    spins_here c.args.chip.now c.args.node c.state.result.now c.state.ensures
    (c.is_spinning.ensures c.if-is_spinning.true)
