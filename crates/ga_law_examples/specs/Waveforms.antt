-- What the text of a waveform shows of a run.
use Rattle.std.specs.Prelude.{◌≡◌, ◌≢◌, ◌<◌, ℕ, suc, ◌+◌, true, List, [], Option, Some, None}
use Rattle.std.specs.List.{slice_get}
use Rattle.std.specs.Option.{option_and_then}
use Rattle.ga_place.specs.declared.side.Side.{Side}
use Rattle.ga_asm.specs.Image.{ImageView}
use Rattle.ga_asm.specs.Text.{HasImages}
use Rattle.ga_chip.specs.Chip.{Chip, pending}
use Rattle.ga_observe.specs.Seen.{steps_seen, turns_numbered}
use Rattle.ga_wave.specs.declared.signal.Signal.{Signal}
use Rattle.ga_wave.specs.Change.{signal_number}
use Rattle.ga_wave.specs.Header.{signal_name}
use Rattle.ga_wave.specs.Identifier.{identifier}
use Rattle.ga_wave.specs.Laws.{scope_of, words_posted, words_written, written_in}
use Rattle.ga_wave.specs.Reading.{read_at}
use Rattle.ga_wave.specs.Signal.{is_signal}
use Rattle.ga_wave.specs.Value.{value_of, value_text}
use Rattle.ga_wave.specs.Variables.{declared_identifier}
use Rattle.ga_wave.specs.Wave.{shown_in, shown_names}

-- ---- its values

-- what a reader finds at a time, by the names of a scope and of a variable in it
abbrev pub read_by_name : List ℕ → List (List ℕ) → List ℕ → ℕ → Option (List ℕ)
read_by_name text scope name time =
    option_and_then (λ identifier. read_at text identifier time)
    (declared_identifier text scope name)

-- A reader of a text finds each value that the turns of a run from a chip on show, of each node
-- that is shown. Addresses have the labels of a source text.
pub record IsReadable (source nodes : List ℕ) (start : Chip) (turns : ℕ) (text : List ℕ) : Type 0
  where
    pub images : List (ℕ × ImageView)
    pub images_are : HasImages source images
    pub found : (number name : ℕ) (signal : Signal) (turn : ℕ)
        → slice_get (shown_names nodes) number ≡ Some name → is_signal name signal ≡ true
        → turn < turns
        → read_by_name text (scope_of name) (signal_name name signal) turn
        ≡ Some (value_text images name (value_of signal (shown_in start turn name)))

-- ---- what changes

-- a turn that writes no value for a signal shows that of the turn before
abbrev pub UnwrittenIsKept : Chip → Type 0
UnwrittenIsKept start =
    (name : ℕ) (signal : Signal) (turn : ℕ) → written_in start name signal (suc turn) ≡ None
    → value_text [] name (value_of signal (shown_in start (suc turn) name))
    ≡ value_text [] name (value_of signal (shown_in start turn name))

-- no word is pending
abbrev pub HasNoWords : Chip → Type 0
HasNoWords chip = (cell : ℕ) → pending chip cell ≡ None

-- the words that are written for a port are those that its node posts there
abbrev pub WrittenArePosted : Chip → Type 0
WrittenArePosted start =
    (name : ℕ) (side : Side) (turn : ℕ)
    → words_written start name side turn
    ≡ words_posted name side (steps_seen start (turns_numbered (turn + 1)))

-- signals of two nodes have two identifiers
abbrev pub NodesAreApart : Type 0
NodesAreApart =
    (number other : ℕ) (one two : Signal) → number ≢ other
    → identifier (signal_number number one) ≢ identifier (signal_number other two)
