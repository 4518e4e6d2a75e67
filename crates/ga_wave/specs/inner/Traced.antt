-- The nodes of a waveform from turn to turn.
use Rattle.std.specs.Prelude.{ℕ, List, ◌++◌, codes, Some, None}
use Rattle.std.specs.List.{flat_map, range_with_len}
use Rattle.ga_place.specs.Cell.{name_at}
use Rattle.ga_place.specs.declared.side.Side.{Side}
use Rattle.ga_asm.specs.Image.{ImageView}
use Rattle.ga_chip.specs.Chip.{Chip}
use Rattle.ga_wave.specs.declared.wave.Traced.{Traced}
use Rattle.ga_wave.specs.Change.{changes}
use Rattle.ga_wave.specs.Header.{scope}
use Rattle.ga_wave.specs.Sample.{sample_of, stand_in}
use Rattle.ga_wave.specs.Wave.{UNIT, if_shown}

-- those of the nodes below an index that are shown
abbrev pub names_below : List ℕ → ℕ → List ℕ
names_below nodes index = flat_map (λ at. if_shown nodes (name_at at)) (range_with_len 0 index)

-- a node before the first turn
abbrev pub first_traced : Chip → ℕ → ℕ → Traced
first_traced chip number name =
    record { node = name; number = number; stand = stand_in chip name; shown = None }

-- the same node behind a turn, by the chip behind it
abbrev pub next_traced : Side → Chip → Traced → Traced
next_traced side chip one = record {
  node = one.node;
  number = one.number;
  stand = stand_in chip one.node;
  shown = Some (sample_of side one.stand chip one.node);
}

abbrev pub one_changes : List (ℕ × ImageView) → Side → Chip → Traced → List ℕ
one_changes images side chip one =
    changes images one.node one.number one.shown (sample_of side one.stand chip one.node)

abbrev pub traced_changes : List (ℕ × ImageView) → Side → Chip → List Traced → List ℕ
traced_changes images side chip traced = flat_map (one_changes images side chip) traced

abbrev pub scopes_of : List Traced → List ℕ
scopes_of traced = flat_map (λ (one : Traced). scope one.node one.number) traced

unfoldable pub header_of : List Traced → List ℕ
header_of traced =
    UNIT ++ scopes_of traced ++ codes "$upscope $end\n$enddefinitions $end\n"
