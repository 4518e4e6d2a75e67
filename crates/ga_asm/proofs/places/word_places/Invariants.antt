use Rattle.std.proofs.Common.{◌≡◌, map, take}
use Rattle.ga_pack.specs.Model.Program.{place_at}
use Rattle.ga_source.specs.Token.{place_of}
use Rattle.ga_asm.proofs.places.word_places.Given as goal

abbrev pub invariant-loop-index : goal.invariant-loop-index
invariant-loop-index l =
    map place_of l.places.items ≡ map (place_at (map (λ found. place_of found.place) l.found))
    (take l.index-index l.index-items)
