-- The outcome of a try as a number.
use Rattle.std.specs.Prelude.{ℕ}
use Rattle.ga_chip.specs.declared.outcome.Outcome.{Outcome}
use Rattle.ga_chip.specs.declared.outcome.Outcome.TheVariants.{Moved}

-- a try that was Moved is one move, and each other none
abbrev pub moved_by : Outcome → ℕ
moved_by Moved = 1
moved_by _ = 0
