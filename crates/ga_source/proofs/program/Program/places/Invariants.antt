use Rattle.std.proofs.Common.{◌≡◌, map}
use Rattle.ga_pack.specs.Model.Program.{placed_sections}
use Rattle.ga_source.specs.Program.{items_at}
use Rattle.ga_source.specs.Section.{section_of}
use Rattle.ga_source.specs.Token.{place_of}
use Rattle.ga_source.proofs.program.Program.places.Given as goal

abbrev pub invariant-loop-part : goal.invariant-loop-part
invariant-loop-part l =
    items_at (placed_sections (map place_of l.rest) (map section_of l.part-iterator)) l.before
    ≡ items_at l.self l.section
