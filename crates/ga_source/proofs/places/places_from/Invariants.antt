use Rattle.std.proofs.Common.{◌≡◌, ◌++◌, map, drop}
use Rattle.ga_pack.specs.Model.Program.{placed_items}
use Rattle.ga_source.specs.Item.{item_of}
use Rattle.ga_source.specs.Program.{item_place, item_place_of}
use Rattle.ga_source.specs.Token.{place_of}
use Rattle.ga_source.proofs.places.places_from.Given as goal

abbrev pub invariant-loop-item : goal.invariant-loop-item
invariant-loop-item l =
    map item_place_of l.found.items
    ++ map item_place (placed_items (map place_of l.rest) (map item_of (drop l.item-index l.items)))
    ≡ map item_place (placed_items (map place_of l.places) (map item_of l.items))
