use Rattle.std.proofs.Common.{◌∙◌}
use Rattle.ga_chip.specs.Run.{has_break}
use Rattle.ga_trace.proofs.Unbroken.{spins_not, spins_period}
use Rattle.ga_trace.proofs.spin_watch.spins_with.Goals as goal

pub returns-in-Some : goal.returns-in-Some
returns-in-Some c =
    c.are_unbroken.ensures
    ∙ spins_period (has_break c.args.chip.now c.args.node) c.args.state.now c.in-Some.period
    c.in-Some.ensures.most c.in-Some.ensures.spins

pub returns-in-None : goal.returns-in-None
returns-in-None c =
    spins_not (has_break c.args.chip.now c.args.node) c.args.state.now c.in-None.ensures.none
