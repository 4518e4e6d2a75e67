use Rattle.std.proofs.Common.{◌∙◌, sym}
use Rattle.ga_node.proofs.Spun.{spins_found}
use Rattle.ga_race.proofs.spin.is_spinning.Goals as goal

pub returns : goal.returns
returns c some =
    spins_found c.args.state.now c.period.result c.period.ensures.spins
    (sym c.is_some.ensures ∙ some)
