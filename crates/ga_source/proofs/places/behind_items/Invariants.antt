use Rattle.std.proofs.Common.{◌≡◌, [], length, map, drop}
use Rattle.ga_pack.specs.Model.Source.{items_tokens}
use Rattle.ga_source.specs.Item.{item_of}
use Rattle.ga_source.proofs.places.behind_items.Given as goal

abbrev pub invariant-loop-item : goal.invariant-loop-item
invariant-loop-item l =
    drop (length (items_tokens (map item_of (drop l.item-index l.items)) [])) l.rest
    ≡ drop (length (items_tokens (map item_of l.items) [])) l.places
