-- A reader of a waveform finds what its turns show.
use Rattle.std.proofs.Common.{◌≡◌, ◌∙◌, ℕ, ◌<◌, ◌^◌, true, List, ap}
use Rattle.std.specs.Option.{option_and_then}
use Rattle.ga_asm.specs.Image.{ImageView}
use Rattle.ga_asm.specs.Text.{HasImages}
use Rattle.ga_chip.specs.Chip.{Chip}
use Rattle.ga_wave.specs.Header.{signal_name}
use Rattle.ga_wave.specs.Laws.{IdentifiersAreDeclared, ReadsBack, labels_are_words, scope_of}
use Rattle.ga_wave.specs.Reading.{read_at}
use Rattle.ga_wave.specs.Wave.{waveform}
use Rattle.ga_law_examples.specs.Waveforms.{IsReadable, read_by_name}

pub readable : (source nodes : List ℕ) (start : Chip) (turns : ℕ) (text : List ℕ)
    (images : List (ℕ × ImageView)) → IdentifiersAreDeclared → ReadsBack
    → HasImages source images → labels_are_words images ≡ true → turns < 2 ^ 64
    → text ≡ waveform images nodes start turns → IsReadable source nodes start turns text
readable source nodes start turns text images declared read has words small is = record {
  images = images;
  images_are = has;
  found = λ number name signal turn at shown few.
      ap (λ written. read_by_name written (scope_of name) (signal_name name signal) turn) is
      ∙ ap (option_and_then (λ identifier.
      read_at (waveform images nodes start turns) identifier turn))
      (declared images nodes start number name signal turns at shown)
      ∙ read images nodes start number name signal turns turn words at shown small few;
}
