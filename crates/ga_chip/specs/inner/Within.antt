-- Counts of words are bounded by the steps.
use Rattle.std.specs.Prelude.{ℕ, ◌≤◌, ◌<◌, ◌^◌}
use Rattle.ga_place.specs.declared.side.Side.{Side}
use Rattle.ga_chip.specs.Part.{Counts, count_at}

-- no count is above the number
abbrev pub IsWithin : Counts → ℕ → Type 0
IsWithin counts most = (side : Side) → count_at side counts ≤ most

-- A node's steps fit 64 bits, and no count of words written or read is above them.
pub record StepsBound (steps : ℕ) (written read : Counts) : Type 0 where
  pub fits : steps < 2 ^ 64
  pub writes : IsWithin written steps
  pub reads : IsWithin read steps
