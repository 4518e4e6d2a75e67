use Rattle.std.proofs.Common.{◌≡◌, ◌<◌, ◌⊎◌, ℕ, false, get_or, true}
use Rattle.ga_place.specs.Cell.{name_at}
use Rattle.ga_race.specs.inner.Ending.{IsKept}
use Rattle.ga_race.proofs.ending.KeptChip.is_again.Given as goal

-- the nodes so far spun, or are as they were
abbrev pub invariant-loop-index : goal.invariant-loop-index
invariant-loop-index l =
    (k : ℕ) → k < l.index
    → (get_or l.self.spins k false ≡ true) ⊎ IsKept l.chip l.self.chip (name_at k)
