use Rattle.std.proofs.Common.{ap, ◌∙◌, subst, sym}
use Rattle.std.proofs.Math.ListN.{drop_of_length-le}
use Rattle.ga_chip.specs.Run.{ran, tries_of}
use Rattle.ga_chip.specs.Grow.{LedgersGrow}
use Rattle.ga_chip.specs.Legal.{IsLegal}
use Rattle.ga_chip.proofs.Grow.{ledgers_grow}
use Rattle.ga_chip.proofs.Turns.{ran_next, tries_next}
use Rattle.ga_chip.proofs.chip.Chip.run.Goals as goal

pub loop-what-preserved : goal.loop-what-preserved
loop-what-preserved c =
    sym (ran_next c.loop-what.self c.attempt-outcome.new.self c.what-item.result.node
    c.what-item.result.side c.attempt-outcome.result _ _
    (tries_next c.args.tries.now c.loop-what.what-index c.what-item.result c.loop-what-test.true
    c.what-item.is) c.attempt-outcome.ensures.chip)
    ∙ c.loop-what.invariant

pub returns-clause-chip : goal.returns-clause-chip
returns-clause-chip c =
    ap (λ l. ran c.loop-what.self (tries_of l))
    (sym (drop_of_length-le c.args.tries.now c.loop-what-test.false)) ∙ c.loop-what.invariant

pub returns-clause-ledgers : goal.returns-clause-ledgers
returns-clause-ledgers c =
    subst (λ z. LedgersGrow c.args.self.now z (tries_of c.args.tries.now))
    (sym (returns-clause-chip c)) (ledgers_grow c.args.self.now (tries_of c.args.tries.now)
    (subst IsLegal c.self.view_is c.self.invariant.legal))
