use Rattle.std.proofs.Common.{◌≡◌, ◌++◌, string_bytes}
use Rattle.std.specs.List.{flat_map, range_with_len}
use Rattle.ga_place.specs.Cell.{name_at}
use Rattle.ga_waits.specs.Label.{images_in}
use Rattle.ga_map.specs.Rings.{ring_node}
use Rattle.ga_map.proofs.rings.push_ring_nodes.Given as goal

-- the lines of as many nodes are written
abbrev pub invariant-loop-index : goal.invariant-loop-index
invariant-loop-index l =
    string_bytes l.text
    ≡ string_bytes l.initial.text
    ++ flat_map (λ index. ring_node (images_in l.images) l.chip (name_at index))
    (range_with_len 0 l.index)
