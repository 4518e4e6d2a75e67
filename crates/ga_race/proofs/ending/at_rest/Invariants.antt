use Rattle.std.proofs.Common.{◌≡◌, ◌<◌, ℕ, false, get_or, length}
use Rattle.ga_place.specs.Cell.{name_at}
use Rattle.ga_race.specs.Rounds.{HasNoBreaks}
use Rattle.ga_race.specs.Spins.{RestsOrSpins}
use Rattle.ga_race.proofs.ending.at_rest.Given as goal

-- each node so far rests or spins
abbrev pub invariant-loop-index : goal.invariant-loop-index
invariant-loop-index l = record {
  length : length l.spins ≡ 144;
  so_far : (k : ℕ) → k < l.index → HasNoBreaks l.chip
      → RestsOrSpins l.chip (name_at k) (get_or l.spins k false);
}
