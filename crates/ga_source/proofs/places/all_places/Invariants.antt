use Rattle.std.proofs.Common.{◌≡◌, ◌++◌, map, drop}
use Rattle.ga_source.specs.Token.{place_of}
use Rattle.ga_source.proofs.ItemPlaces.{token_place}
use Rattle.ga_source.proofs.places.all_places.Given as goal

abbrev pub invariant-loop-token : goal.invariant-loop-token
invariant-loop-token l =
    map place_of l.places.items ++ map token_place (drop l.token-index l.token-items)
    ≡ map token_place l.token-items
