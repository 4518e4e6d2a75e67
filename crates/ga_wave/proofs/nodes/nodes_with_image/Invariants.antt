use Rattle.std.proofs.Common.{◌≡◌}
use Rattle.std.specs.List.{flat_map, range_with_len}
use Rattle.ga_place.specs.Cell.{name_at}
use Rattle.ga_wave.specs.Nodes.{if_image}
use Rattle.ga_wave.proofs.nodes.nodes_with_image.Given as goal

-- as many nodes were looked at
abbrev pub invariant-loop-index : goal.invariant-loop-index
invariant-loop-index l =
    l.nodes.items
    ≡ flat_map (λ index. if_image l.images (name_at index)) (range_with_len 0 l.index)
