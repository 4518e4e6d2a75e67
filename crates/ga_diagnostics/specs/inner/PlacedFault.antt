-- The place of a fault, as the code has it.
use Rattle.ga_source.specs.Token.{place_of}
use Rattle.ga_diagnostics.specs.declared.placed_fault.Placed as declared
use Rattle.ga_diagnostics.specs.PlacedFault.{Placed}

abbrev pub placed_in : declared.Placed → Placed
placed_in placed = record {
  place = place_of placed.place;
  name = placed.name.now;
  meaning = placed.meaning.now;
}
