use Rattle.std.proofs.Common.{◌∙◌, ◌-◌, arith}
use Rattle.std.proofs.lemmas.Bool.{lt-leb}
use Rattle.ga_trace.proofs.Spinning.{spins_by, spins_later, works_by}
use Rattle.ga_trace.proofs.spin_watch.Known.spins.Goals as goal

pub returns-then-after-passed : goal.returns-then-after-passed
returns-then-after-passed c is_break knows =
    spins_by is_break c.args.self.now c.args.state.now c.in-Spins.after c.in-Spins.is knows
    (omega (arith, c.if-after-passed.true, c.steps.ensures))

pub returns-else-after-passed : goal.returns-else-after-passed
returns-else-after-passed c is_break knows =
    lt-leb c.in-Spins.after (c.steps.result - c.args.self.now.steps) c.if-after-passed.false
    ∙ spins_later is_break c.args.self.now c.args.state.now c.in-Spins.after c.in-Spins.is knows
    (omega (arith, c.if-after-passed.false, c.steps.ensures))

pub returns-then-passed-states : goal.returns-then-passed-states
returns-then-passed-states c is_break knows =
    works_by is_break c.args.self.now c.args.state.now c.in-Works.states c.in-Works.is knows
    (omega (arith, c.if-passed-states.true, c.steps.ensures))
