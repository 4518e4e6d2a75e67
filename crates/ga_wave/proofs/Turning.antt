-- A waveform turn by turn.
use Rattle.std.proofs.Common.{◌≡◌, ◌∙◌, ℕ, ◌+◌, List, ◌++◌, add-one, ap, codes, map, sym}
use Rattle.ga_asm.specs.Image.{ImageView}
use Rattle.ga_chip.specs.Chip.{Chip}
use Rattle.ga_chip.specs.Run.{side_of_turn}
use Rattle.ga_trace.specs.Traced.{turned}
use Rattle.ga_wave.specs.declared.tracer.Tracer.{Tracer}
use Rattle.ga_wave.specs.Tracer.{IsBehind, traced_by}
use Rattle.ga_wave.specs.Wave.{UNIT, chip_behind, header, numbered, turn_block, turn_text}
use Rattle.ga_wave.specs.inner.Traced.{header_of, next_traced, traced_changes}
use Rattle.ga_wave.proofs.Tracing as nodes

-- the declarations of the nodes before a turn
pub declared : (names : List ℕ) (start : Chip) (turn : ℕ)
    → header_of (traced_by start turn names) ≡ header names
unfolding header header_of
declared names start turn =
    ap (λ scopes. UNIT ++ scopes ++ codes "$upscope $end\n$enddefinitions $end\n")
    (nodes.scopes start turn (numbered names))

-- what a turn changes
pub changes : (images : List (ℕ × ImageView)) (names : List ℕ) (start : Chip) (turn : ℕ)
    (tracer : Tracer) → IsBehind start names turn tracer
    → turn_block turn (traced_changes images (side_of_turn turn) (turned turn tracer.chip)
    tracer.traced.items)
    ≡ turn_text images names start turn
unfolding turn_text
changes images names start turn tracer before =
    ap (λ c. turn_block turn (traced_changes images (side_of_turn turn) (turned turn c)
    tracer.traced.items)) before.chip_is
    ∙ ap (λ t. turn_block turn (traced_changes images (side_of_turn turn)
    (turned turn (chip_behind start turn)) t)) before.traced_are
    ∙ ap (turn_block turn) (nodes.changed images start turn (numbered names))

-- one turn more
pub turn_more : (names : List ℕ) (start : Chip) (turn : ℕ) (old new : Tracer)
    → IsBehind start names turn old → new.chip ≡ turned turn old.chip
    → new.traced.items
    ≡ map (next_traced (side_of_turn turn) (turned turn old.chip)) old.traced.items
    → IsBehind start names (turn + 1) new
turn_more names start turn old new before is are =
    let side = side_of_turn turn in
    let behind = turned turn (chip_behind start turn) in record {
      chip_is =
          is ∙ ap (turned turn) before.chip_is ∙ ap (chip_behind start) (sym (add-one turn));
      traced_are =
          are ∙ ap (λ c. map (next_traced side (turned turn c)) old.traced.items) before.chip_is
          ∙ ap (map (next_traced side behind)) before.traced_are
          ∙ nodes.next start turn (numbered names)
          ∙ ap (λ n. traced_by start n names) (sym (add-one turn));
    }
