use Rattle.std.proofs.Common.{◌∙◌, sym}
use Rattle.ga_race.proofs.Resting.{state_rests}
use Rattle.ga_race.proofs.going.may_move.Goals as goal

pub returns : goal.returns
returns c none =
    state_rests c.args.chip.now c.args.node c.args.side c.state.result.now c.need-need.result
    c.goes.result c.legal.ensures c.state.ensures (sym c.is_held.ensures ∙ c.if-is_held.false)
    c.need-need.ensures c.goes.ensures none
