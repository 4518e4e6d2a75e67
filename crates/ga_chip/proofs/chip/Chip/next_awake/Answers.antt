use Rattle.std.proofs.Common.{subst}
use Rattle.ga_place.specs.Cell.{name_at}
use Rattle.ga_chip.specs.Chip.{tried}
use Rattle.ga_chip.specs.declared.outcome.Outcome.TheVariants.{Moved}
use Rattle.std.proofs.Common.{◌≢◌}
use Rattle.ga_chip.proofs.chip.Chip.next_awake.Goals as goal

pub returns-clause-asleep : goal.returns-clause-asleep
returns-clause-asleep c = λ index side from_ below within.
    subst (λ chip. (tried chip (name_at index) side).0 ≢ Moved) c.self.view_is
    (c.self.invariant.still index side within (c.next.ensures.first index from_ below))
