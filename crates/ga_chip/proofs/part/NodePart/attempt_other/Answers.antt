use Rattle.std.proofs.Common.{refl}
use Rattle.ga_chip.specs.Part.{Nothing}
use Rattle.ga_chip.specs.declared.outcome.Outcome.TheVariants.{Held}
use Rattle.ga_chip.proofs.Plain.{after_by, cells_by}
use Rattle.ga_chip.proofs.Stays.{held_stays}
use Rattle.ga_chip.proofs.part.NodePart.attempt_other.Goals as goal

pub returns-then-is_held-clause-part : goal.returns-then-is_held-clause-part
returns-then-is_held-clause-part c =
    after_by c.args.self.now c.args.side c.args.cells.now (Nothing Held)
    (Held, c.args.self.now) (c.is_held.ensures.held c.if-is_held.true c.args.side) refl

pub returns-then-is_held-clause-cells : goal.returns-then-is_held-clause-cells
returns-then-is_held-clause-cells c =
    cells_by c.args.self.now c.args.side c.args.cells.now c.args.cells.now (Nothing Held)
    (c.is_held.ensures.held c.if-is_held.true c.args.side) refl

pub returns-then-is_held-clause-sleeps : goal.returns-then-is_held-clause-sleeps
returns-then-is_held-clause-sleeps c =
    λ yes other. held_stays c.args.self.now c.args.cells.now other
    (c.is_held.ensures.held c.if-is_held.true other)
