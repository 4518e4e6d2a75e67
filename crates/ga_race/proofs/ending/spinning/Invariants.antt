use Rattle.std.proofs.Common.{◌≡◌, ◌<◌, ℕ, Some, false, get_or, length, true}
use Rattle.ga_place.specs.Cell.{name_at}
use Rattle.ga_node.specs.State.{State}
use Rattle.ga_chip.specs.Chip.{state_of}
use Rattle.ga_node.specs.Spins.{Spins}
use Rattle.ga_race.proofs.ending.spinning.Given as goal

-- of the nodes so far those spin that the list names
abbrev pub invariant-loop-index : goal.invariant-loop-index
invariant-loop-index l = record {
  length : length l.spins ≡ 144;
  so_far : (k : ℕ) → k < l.index → (state : State) → get_or l.spins k false ≡ true
      → Some state ≡ state_of l.chip (name_at k) → Spins state;
}
