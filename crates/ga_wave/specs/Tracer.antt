-- A waveform that is made turn by turn.
use Rattle.std.specs.Prelude.{◌≡◌, ℕ, List, map}
use Rattle.std.specs.List.{enumerate_from}
use Rattle.ga_chip.specs.Chip.{Chip}
use Rattle.ga_wave.specs.declared.tracer.Tracer.{Tracer}
use Rattle.ga_wave.specs.declared.wave.Traced.{Traced}
use Rattle.ga_wave.specs.Sample.{stand_in}
use Rattle.ga_wave.specs.Wave.{chip_behind, shown_before}

-- a node before a turn
abbrev pub traced_at : Chip → ℕ → ℕ × ℕ → Traced
traced_at start turn node = record {
  node = node.1;
  number = node.0;
  stand = stand_in (chip_behind start turn) node.1;
  shown = shown_before start turn node.1;
}

abbrev pub traced_by : Chip → ℕ → List ℕ → List Traced
traced_by start turn names = map (traced_at start turn) (enumerate_from 0 names)

-- A run from a chip on is behind a number of turns, and its waveform shows nodes of these names.
pub record IsBehind (start : Chip) (names : List ℕ) (turns : ℕ) (tracer : Tracer) : Type 0 where
  pub chip_is : tracer.chip ≡ chip_behind start turns
  pub traced_are : tracer.traced.items ≡ traced_by start turns names
