use Rattle.std.proofs.Common.{subst, sym}
use Rattle.ga_chip.specs.Run.{turn_of}
use Rattle.ga_chip.specs.Grow.{LedgersGrow}
use Rattle.ga_chip.specs.Legal.{IsLegal}
use Rattle.ga_chip.proofs.Grow.{ledgers_grow}
use Rattle.ga_chip.proofs.chip.Chip.turn.Goals as goal

pub returns-then-is_crowded-clause-ledgers : goal.returns-then-is_crowded-clause-ledgers
returns-then-is_crowded-clause-ledgers c =
    subst (λ z. LedgersGrow c.args.self.now z (turn_of c.args.side))
    (sym c.turn_of_all.ensures.chip) (ledgers_grow c.args.self.now (turn_of c.args.side)
    (subst IsLegal c.self.view_is c.self.invariant.legal))

pub returns-else-is_crowded-clause-ledgers : goal.returns-else-is_crowded-clause-ledgers
returns-else-is_crowded-clause-ledgers c =
    subst (λ z. LedgersGrow c.args.self.now z (turn_of c.args.side))
    (sym c.turn_of_awake.ensures.chip) (ledgers_grow c.args.self.now (turn_of c.args.side)
    (subst IsLegal c.self.view_is c.self.invariant.legal))
