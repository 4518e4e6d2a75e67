-- Numbers for the sides, as a list in the order of the sides.
use Rattle.std.specs.Prelude.{ℕ, List, get_or}
use Rattle.ga_chip.specs.Part.{Counts}

abbrev pub by_sides : List ℕ → Counts
by_sides numbers = record {
  right = get_or numbers 0 0;
  down = get_or numbers 1 0;
  left = get_or numbers 2 0;
  up = get_or numbers 3 0;
}
