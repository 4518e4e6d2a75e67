use Rattle.std.proofs.Common.{◌≡◌, ◌++◌, map}
use Rattle.ga_pack.specs.Model.Program.{placed_sections}
use Rattle.ga_source.specs.Program.{item_place_of}
use Rattle.ga_source.specs.Section.{section_of}
use Rattle.ga_source.specs.Token.{place_of}
use Rattle.ga_source.proofs.ItemPlaces.{places_in}
use Rattle.ga_source.proofs.program.Program.section_places.Given as goal

-- what is found, and the places in the sections that are left
abbrev pub invariant-loop-part : goal.invariant-loop-part
invariant-loop-part l =
    map (λ places. map item_place_of places.items) l.found.items
    ++ map places_in (placed_sections (map place_of l.rest) (map section_of l.part-iterator))
    ≡ map places_in l.self
