-- A waveform that is written piece by piece.
use Rattle.std.proofs.Common.{◌≡◌, ◌∙◌, ◌≤◌, ℕ, ◌+◌, List, [], ◌++◌, Option, Result, Ok, Err, OnErr, OnOk, ap, append-nil, append_assoc, subst, sym, take}
use Rattle.std.specs.Io.KnownBytes.{Appends}
use Rattle.std.proofs.KnownBytes.{Appends-trans}
use Rattle.std.proofs.lemmas.Result.{on_err_weaker, on_ok_weaker}
use Rattle.ga_asm.specs.Image.{ImageView}
use Rattle.ga_chip.specs.Chip.{Chip}
use Rattle.ga_wave.specs.Wave.{shown_names, text_before, time_line, turn_text, waveform}
use Rattle.ga_wave.proofs.Fitting.{begins, one_more}
use Rattle.ga_input.specs.Writing.{AppendsPart}
use Rattle.ga_views.proofs.Pieces.{with_part, without_piece}

-- at a fault
pub failed : {A E P : Type 0} (result : Result A E) → P → OnErr result P
failed (Ok a) p = tt
failed (Err e) p = p

module _ (images : List (ℕ × ImageView)) (nodes : List ℕ) (start : Chip) (turns : ℕ)
    (old now : Option (List ℕ)) (done piece : List ℕ) (wrote : Appends old now done) where
  abbrev text : List ℕ
  text = waveform images nodes start turns

  abbrev before : ℕ → List ℕ
  before turn = text_before images (shown_names nodes) start turn

  -- what was written before a turn is a prefix
  pub part_before : (turn : ℕ) → turn ≤ turns
      → done ++ piece ≡ text_before images (shown_names nodes) start turn
      → AppendsPart old now (waveform images nodes start turns)
  part_before turn few are =
      let (rest, is) = begins images nodes start turn turns few in
      without_piece old now done piece (before turn) wrote are rest text is

  -- and with a part of the piece too
  pub part_with : (new : Option (List ℕ)) (count turn : ℕ) → turn ≤ turns
      → done ++ piece ≡ text_before images (shown_names nodes) start turn
      → Appends now new (take count piece) → AppendsPart old new (waveform images nodes start turns)
  part_with new count turn few are more =
      let (rest, is) = begins images nodes start turn turns few in
      with_part old now done piece (before turn) wrote are new count rest text is more

  -- the text of one turn more
  pub turn_more : (new : List ℕ) (turn : ℕ)
      → done ++ piece ≡ text_before images (shown_names nodes) start turn
      → new ≡ piece ++ turn_text images (shown_names nodes) start turn
      → done ++ new ≡ text_before images (shown_names nodes) start (turn + 1)
  turn_more new turn are is =
      let made = turn_text images (shown_names nodes) start turn in
      ap (λ t. done ++ t) is ∙ sym (append_assoc done piece made)
      ∙ ap (λ t. t ++ made) are ∙ sym (one_more images (shown_names nodes) start turn)

  -- and the text of all turns
  all_made : (new : List ℕ)
      → done ++ piece ≡ text_before images (shown_names nodes) start turns
      → new ≡ piece ++ time_line turns → done ++ new ≡ waveform images nodes start turns
  unfolding waveform
  all_made new are is =
      ap (λ t. done ++ t) is ∙ sym (append_assoc done piece (time_line turns))
      ∙ ap (λ t. t ++ time_line turns) are

  -- what writes the last piece writes the waveform, or a prefix of it
  pub written : {A E : Type 0} (result : Result A E) (new : Option (List ℕ)) (last : List ℕ)
      → done ++ piece ≡ text_before images (shown_names nodes) start turns
      → last ≡ piece ++ time_line turns → OnOk result (Appends now new last)
      → OnOk result (Appends old new (waveform images nodes start turns))
  written result new last are is =
      on_ok_weaker result (λ more. subst (Appends old new) (all_made last are is)
      (Appends-trans old now new done last wrote more))

  pub part : {A E : Type 0} (result : Result A E) (new : Option (List ℕ)) (last : List ℕ)
      → done ++ piece ≡ text_before images (shown_names nodes) start turns
      → last ≡ piece ++ time_line turns
      → OnErr result ((count : ℕ) × Appends now new (take count last))
      → OnErr result (AppendsPart old new (waveform images nodes start turns))
  part result new last are is =
      on_err_weaker result (λ wrote_part. with_part old now done last text wrote
      (all_made last are is) new wrote_part.0 [] text (sym (append-nil text)) wrote_part.1)
