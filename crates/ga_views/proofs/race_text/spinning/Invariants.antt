use Rattle.std.proofs.Common.{◌≡◌}
use Rattle.std.specs.List.{flat_map, range_with_len}
use Rattle.ga_views.specs.RaceText.{spinning_if}
use Rattle.ga_views.proofs.race_text.spinning.Given as goal

-- those of as many nodes are added
abbrev pub invariant-loop-index : goal.invariant-loop-index
invariant-loop-index l =
    l.nodes.items ≡ flat_map (spinning_if l.spins) (range_with_len 0 l.index)
