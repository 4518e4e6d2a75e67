use Rattle.ga_observe.proofs.Deeds.{step_made}
use Rattle.ga_observe.proofs.next.next_step.Goals as goal

pub returns : goal.returns
returns c moved =
    step_made c.args.chip.now c.args.node c.args.turn c.args.side c.state-state.result.now
    c.need-need.result c.next_deed-deed.result c.steps.result c.place.result c.p.result
    c.word.result c.legal.ensures c.state-state.ensures c.need-need.ensures
    c.next_deed-deed.ensures c.steps.ensures c.place.ensures c.p.ensures.value c.word.ensures moved
