-- A pass that is refused.
use Rattle.std.proofs.Common.{◌≡◌, Err}
use Rattle.ga_chip.specs.declared.error.ChipError.{ChipError}
use Rattle.ga_chip.specs.declared.error.ChipError.TheVariants.{NotHeld}
use Rattle.ga_chip.specs.declared.outcome.Outcome.{Outcome}
use Rattle.ga_chip.specs.declared.outcome.Outcome.TheVariants.{Moved}
use Rattle.ga_chip.specs.Chip.{answer_of, unless_held}

-- it is refused since the node isn't held
pub not_held : (outcome : Outcome) (fault : ChipError) → Err fault ≡ answer_of (unless_held outcome)
    → fault ≡ NotHeld
not_held Moved fault e = cc
not_held _ fault e = cc
