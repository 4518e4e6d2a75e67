use Rattle.std.proofs.Common.{◌≡◌}
use Rattle.std.specs.List.{flat_map, range_with_len}
use Rattle.ga_place.specs.Cell.{name_at}
use Rattle.ga_profile.specs.Unread.{if_unread}
use Rattle.ga_profile.proofs.unread.unread_by.Given as goal

-- those of as many nodes
abbrev pub invariant-loop-index : goal.invariant-loop-index
invariant-loop-index l =
    l.nodes.items ≡ flat_map (λ index. if_unread l.chip (name_at index)) (range_with_len 0 l.index)
