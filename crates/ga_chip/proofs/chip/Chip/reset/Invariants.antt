use Rattle.std.specs.Prelude.{◌≡◌, map}
use Rattle.std.specs.List.{range_with_len}
use Rattle.ga_place.specs.Cell.{name_at}
use Rattle.ga_chip.specs.Chip.{reset_part}
use Rattle.ga_chip.proofs.chip.Chip.reset.Given as goal

abbrev pub invariant-loop-index : goal.invariant-loop-index
invariant-loop-index l =
    l.parts.items ≡ map (λ index. reset_part (name_at index)) (range_with_len 0 l.index)
