-- What a viewer shows at a time, the words that it shows of a port, and what it reads from the
-- text.
use Rattle.std.specs.Prelude.{◌≡◌, ◌<◌, ℕ, zero, suc, ◌+◌, ◌^◌, ◌==◌, Bool, true, List, [], ◌∷◌, ◌++◌, codes, Option, Some, None, option_map, if◌then◌else◌}
use Rattle.std.specs.List.{filter_map, list_all, range_with_len, slice_get}
use Rattle.std.specs.Option.{option_and_then, option_or, option_to_list}
use Rattle.ga_place.specs.Node.{node_text}
use Rattle.ga_place.specs.declared.side.Side.{Side}
use Rattle.ga_asm.specs.Image.{ImageView}
use Rattle.ga_asm.specs.Text.{HasImages}
use Rattle.ga_chip.specs.Chip.{Chip}
use Rattle.ga_chip.specs.Legal.{IsLegal}
use Rattle.ga_observe.specs.declared.step.Step.{Step}
use Rattle.ga_observe.specs.Seen.{steps_seen, turns_numbered}
use Rattle.ga_trace.specs.Watched.{posted_at}
use Rattle.ga_wave.specs.declared.signal.Signal.{Signal}
use Rattle.ga_wave.specs.declared.signal.Signal.TheVariants.{Port}
use Rattle.ga_wave.specs.declared.value.Value.{Value}
use Rattle.ga_wave.specs.declared.value.Value.TheVariants.{Bits}
use Rattle.ga_wave.specs.Change.{is_new, signal_number}
use Rattle.ga_wave.specs.Header.{signal_name}
use Rattle.ga_wave.specs.Identifier.{identifier}
use Rattle.ga_wave.specs.Reading.{is_word, read_at}
use Rattle.ga_wave.specs.Sample.{pending_at}
use Rattle.ga_wave.specs.Signal.{is_signal}
use Rattle.ga_wave.specs.Value.{value_of, value_text}
use Rattle.ga_wave.specs.Variables.{declared_identifier}
use Rattle.ga_wave.specs.Wave.{chip_behind, shown_before, shown_in, shown_names, waveform}

-- the value that a turn writes for a signal of a node, if it writes one
abbrev pub written_in : Chip → ℕ → Signal → ℕ → Option Value
written_in start name signal turn =
    if is_new (shown_before start turn name) signal (value_of signal (shown_in start turn name))
    then Some (value_of signal (shown_in start turn name)) else None

-- ---- the last value

-- the last value that is written up to a turn
abbrev pub last_written : Chip → ℕ → Signal → ℕ → Option Value
last_written start name signal zero = written_in start name signal zero
last_written start name signal (suc turn) =
    option_or (written_in start name signal (suc turn)) (last_written start name signal turn)

-- At each turn the last value that was written for a signal has the text of what the turn shows.
abbrev pub LastValuesAreShown : Type 0
LastValuesAreShown =
    (images : List (ℕ × ImageView)) (start : Chip) (name : ℕ) (signal : Signal) (turn : ℕ)
    → option_map (value_text images name) (last_written start name signal turn)
    ≡ Some (value_text images name (value_of signal (shown_in start turn name)))

-- ---- the words of a port

-- the word that a value is, if it is one
abbrev pub word_of : Value → Option ℕ
word_of (Bits word) = Some word
word_of value = None

-- the words that are written for a port of a node up to a turn, in order
abbrev pub words_written : Chip → ℕ → Side → ℕ → List ℕ
words_written start name side turn =
    filter_map (λ at. option_and_then word_of (written_in start name (Port side) at))
    (range_with_len 0 (turn + 1))

-- the word that a node posts at a side by a step, and those that it posts there by some steps
abbrev pub word_posted : ℕ → Side → Step → Option ℕ
word_posted name side step = if step.node == name then posted_at side step.deed else None

abbrev pub words_posted : ℕ → Side → List Step → List ℕ
words_posted name side steps = filter_map (word_posted name side) steps

-- the word that was pending at a side of a node at the start and still is behind the first turn
abbrev pub unread_word : Chip → ℕ → Side → Option ℕ
unread_word start name side =
    option_and_then (λ word. pending_at (chip_behind start 1) name side)
    (pending_at start name side)

-- The words that are written for a port up to a turn are those that the node posts there in these
-- turns, in order. In front of them is the word that was pending at the start, unless the first
-- turn reads it.
abbrev pub WordsAreInOrder : Type 0
WordsAreInOrder =
    (start : Chip) (name : ℕ) (side : Side) (turn : ℕ) → IsLegal start
    → words_written start name side turn
    ≡ option_to_list (unread_word start name side)
    ++ words_posted name side (steps_seen start (turns_numbered (turn + 1)))

-- ---- identifiers

-- Two signals with the same identifier are the same signal of the same node, so that a reader of
-- the text can tell the signals apart.
abbrev pub IdentifiersDiffer : Type 0
IdentifiersDiffer =
    (number other : ℕ) (one two : Signal)
    → identifier (signal_number number one) ≡ identifier (signal_number other two)
    → (number ≡ other) × (one ≡ two)

-- ---- the text

-- each label of each image is a word
abbrev pub labels_are_words : List (ℕ × ImageView) → Bool
labels_are_words images =
    list_all (λ image. list_all (λ label. is_word label.0) image.1.labels) images

-- so are those of the images of a source text
abbrev pub LabelsAreWords : Type 0
LabelsAreWords =
    (text : List ℕ) (images : List (ℕ × ImageView)) → HasImages text images
    → labels_are_words images ≡ true

-- Whoever reads a waveform at the identifier of a signal of a node that is shown, and at the number
-- of one of its turns, gets the text of the value that the turn shows. The nodes that are shown are
-- numbered from 0.
abbrev pub ReadsBack : Type 0
ReadsBack =
    (images : List (ℕ × ImageView)) (nodes : List ℕ) (start : Chip) (number name : ℕ)
    (signal : Signal) (turns turn : ℕ)
    → labels_are_words images ≡ true → slice_get (shown_names nodes) number ≡ Some name
    → is_signal name signal ≡ true → turns < 2 ^ 64 → turn < turns
    → read_at (waveform images nodes start turns) (identifier (signal_number number signal)) turn
    ≡ Some (value_text images name (value_of signal (shown_in start turn name)))

-- the scope of a node, by the names of the scopes that it is in, the innermost one first
abbrev pub scope_of : ℕ → List (List ℕ)
scope_of name = (codes "n" ++ node_text name) ∷ codes "chip" ∷ []

-- A waveform declares the identifier of each signal of a node that is shown for the name of the
-- signal, in the scope of the node. So a reader needs nothing but the text.
abbrev pub IdentifiersAreDeclared : Type 0
IdentifiersAreDeclared =
    (images : List (ℕ × ImageView)) (nodes : List ℕ) (start : Chip) (number name : ℕ)
    (signal : Signal) (turns : ℕ)
    → slice_get (shown_names nodes) number ≡ Some name → is_signal name signal ≡ true
    → declared_identifier (waveform images nodes start turns) (scope_of name)
    (signal_name name signal)
    ≡ Some (identifier (signal_number number signal))
