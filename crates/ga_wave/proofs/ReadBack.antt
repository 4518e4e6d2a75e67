-- Whoever reads the text of a waveform gets the values that it shows.
use Rattle.std.proofs.Common.{◌≡◌, ◌∙◌, ◌<◌, ◌≤◌, ℕ, zero, suc, ◌+◌, ◌-◌, ◌^◌, Bool, true, false, List, [], ◌∷◌, ◌++◌, Option, Some, None, ap, ap₂, append-nil, append_assoc, arith, codes, length, option_map, refl, subst, sym}
use Rattle.std.specs.Prelude.{◌&&◌, if◌then◌else◌}
use Rattle.std.specs.Fmt.{decimal}
use Rattle.std.specs.List.{AllByRecursion, flat_map, list_any, range_with_len, slice_get}
use Rattle.std.specs.Option.{option_or}
use Rattle.std.specs.Str.{bytes_eq}
use Rattle.std.proofs.lemmas.Bool.{le-leb, lt-leb, ne_eqb}
use Rattle.std.proofs.lemmas.Slice.Eq.{bytes_eq-Decides}
use Rattle.ga_asm.specs.Image.{ImageView}
use Rattle.ga_chip.specs.Chip.{Chip}
use Rattle.ga_wave.specs.declared.signal.Signal.{Signal}
use Rattle.ga_wave.specs.declared.value.Value.{Value}
use Rattle.ga_wave.specs.Change.{change, changes, is_new, signal_number, value_line}
use Rattle.ga_wave.specs.Identifier.{identifier}
use Rattle.ga_wave.specs.Laws.{ReadsBack, labels_are_words, last_written, written_in}
use Rattle.ga_wave.specs.Reading.{behind_declarations, last_value, lines_in, read_at, timed}
use Rattle.ga_wave.specs.Signal.{SIGNALS, is_signal, position_of}
use Rattle.ga_wave.specs.Value.{value_of, value_text}
use Rattle.ga_wave.specs.Wave.{header, node_changes, numbered, shown_before, shown_in, shown_names, time_line, turn_block, turn_text, waveform}
use Rattle.ga_wave.proofs.HeaderLines.{behind_header, identifier_word}
use Rattle.ga_wave.proofs.Identifying.{identifiers_differ}
use Rattle.ga_wave.proofs.LastValues.{last_values}
use Rattle.ga_wave.proofs.OneOfMany.{IsNamed, any_at, each, named, numbered_at, place_of, same_text, some_gives}
use Rattle.ga_wave.proofs.ReadingParts.{Gives, change_gives, empty_gives, given_by, given_none, gives_none, or_assoc, or_none, time_passes, time_read, time_whole, value_of_text}
use Rattle.ga_wave.proofs.ValueTexts.{value_texts}

module _ (images : List (ℕ × ImageView)) (words : labels_are_words images ≡ true) (start : Chip)
    (number name : ℕ) (signal : Signal) (has : is_signal name signal ≡ true) (time : ℕ) where
  -- the identifier that is read
  abbrev sought : List ℕ
  sought = identifier (signal_number number signal)

  -- whether a signal of a node has it
  abbrev is_sought : ℕ → Signal → Bool
  is_sought other one = bytes_eq (identifier (signal_number other one)) sought

  -- what a turn gives it
  abbrev given : ℕ → Option (List ℕ)
  given turn =
      given_by time turn
      (option_map (value_text images name) (written_in start name signal turn))

  -- a line of another signal gives it nothing
  other_line : (turn other node : ℕ) (one : Signal) (value : Value) → is_sought other one ≡ false
      → (written : Bool)
      → Gives sought time turn
      (if written then value_line images node (signal_number other one) value else []) None
  other_line turn other node one value differs true =
      subst (Gives sought time turn (value_line images node (signal_number other one) value))
      (ap (λ same. given_by time turn
      (if same then Some (value_text images node value) else None)) differs
      ∙ given_none time turn)
      (change_gives sought time turn (value_text images node value)
      (identifier (signal_number other one)) (value_texts images node words value)
      (identifier_word (signal_number other one)))
  other_line turn other node one value differs false = gives_none sought time turn

  -- one of its own gives it the value
  own_line : (turn : ℕ) (value : Value) (written : Bool)
      → Gives sought time turn
      (if written then value_line images name (signal_number number signal) value else [])
      (given_by time turn
      (option_map (value_text images name) (if written then Some value else None)))
  own_line turn value true =
      subst (Gives sought time turn (value_line images name (signal_number number signal) value))
      (ap (λ same. given_by time turn
      (if same then Some (value_text images name value) else None)) (same_text sought))
      (change_gives sought time turn (value_text images name value) sought
      (value_texts images name words value) (identifier_word (signal_number number signal)))
  own_line turn value false =
      subst (Gives sought time turn []) (sym (given_none time turn))
      (gives_none sought time turn)

  own_change : (turn : ℕ)
      → Gives sought time turn
      (change images name number (shown_before start turn name) (shown_in start turn name) signal)
      (given turn)
  own_change turn =
      let value = value_of signal (shown_in start turn name) in
      let fresh = is_new (shown_before start turn name) signal value in
      subst (λ shown. Gives sought time turn
      (if shown && fresh then value_line images name (signal_number number signal) value else [])
      (given turn)) (sym has) (own_line turn value fresh)

  signal_gives : (turn other node : ℕ) → (other ≡ number → node ≡ name) → (one : Signal)
      → Gives sought time turn
      (change images node other (shown_before start turn node) (shown_in start turn node) one)
      (if is_sought other one then given turn else None)
  signal_gives turn other node is_named one = by (is_sought other one) refl
    where
      by : (same : Bool) → is_sought other one ≡ same
          → Gives sought time turn
          (change images node other (shown_before start turn node) (shown_in start turn node) one)
          (if same then given turn else None)
      by true same =
          let (numbers, signals) =
          identifiers_differ other number one signal ((bytes_eq-Decides
          (identifier (signal_number other one)) sought).0 same) in
          let names : node ≡ name = is_named numbers in
          rw (numbers, names, signals) (own_change turn)
      by false differs =
          let value = value_of one (shown_in start turn node) in
          other_line turn other node one value differs
          (is_signal node one && is_new (shown_before start turn node) one value)

  -- whether one of a node's signals has the identifier
  abbrev has_sought : ℕ × ℕ → Bool
  has_sought node = list_any (is_sought node.0) SIGNALS

  node_gives : (turn : ℕ) (node : ℕ × ℕ) → IsNamed number name node
      → Gives sought time turn (node_changes images start turn node)
      (if has_sought node then given turn else None)
  unfolding changes
  node_gives turn node is_named =
      some_gives sought time turn
      (change images node.1 node.0 (shown_before start turn node.1) (shown_in start turn node.1))
      (is_sought node.0) (given turn) SIGNALS
      (each (λ one. Gives sought time turn
      (change images node.1 node.0 (shown_before start turn node.1) (shown_in start turn node.1)
      one) (if is_sought node.0 one then given turn else None))
      (signal_gives turn node.0 node.1 is_named) SIGNALS)

  nodes_give : (turn : ℕ) (nodes : List (ℕ × ℕ)) → AllByRecursion (IsNamed number name) nodes
      → AllByRecursion (λ node. Gives sought time turn (node_changes images start turn node)
      (if has_sought node then given turn else None)) nodes
  nodes_give turn [] all = tt
  nodes_give turn (node ∷ nodes) all = (node_gives turn node all.0, nodes_give turn nodes all.1)

  -- the changes of a turn
  changes_give : (turn : ℕ) (names : List ℕ) → slice_get names number ≡ Some name
      → Gives sought time turn (flat_map (node_changes images start turn) (numbered names))
      (given turn)
  changes_give turn names at =
      let zero_more : 0 + number ≡ number = omega arith in
      let all = named number name 0 number names zero_more at in
      let place = numbered_at 0 number name names at ∙ ap (λ n. Some (n, name)) zero_more in
      let own : has_sought (number, name) ≡ true =
      any_at (is_sought number) SIGNALS (position_of signal) signal (place_of signal)
      (same_text sought) in
      let found : list_any has_sought (numbered names) ≡ true =
      any_at has_sought (numbered names) number (number, name) place own in
      subst (λ some. Gives sought time turn
      (flat_map (node_changes images start turn) (numbered names))
      (if some then given turn else None)) found
      (some_gives sought time turn (node_changes images start turn) has_sought (given turn)
      (numbered names) (nodes_give turn (numbered names) all))

  -- ---- the turns

  -- a turn in front of a text that is read the same at each time in front of it
  turn_read : (turn now : ℕ) (lines rest : List ℕ) (found : Option (List ℕ)) → turn < 2 ^ 64
      → Gives sought time turn lines (given turn)
      → ((at : ℕ) → value_of_text sought time at rest ≡ found)
      → value_of_text sought time now (turn_block turn lines ++ rest)
      ≡ option_or found (given turn)
  turn_read turn now [] rest found small gives same =
      same now ∙ sym (or_none found)
      ∙ ap (option_or found) (sym (empty_gives sought time turn (given turn) gives))
  turn_read turn now (byte ∷ lines) rest found small gives same =
      ap (λ none. value_of_text sought time now
      ((if none then [] else time_line turn ++ (byte ∷ lines)) ++ rest))
      (ne_eqb (suc (length lines)) 0 (λ none. absurd (omega arith)))
      ∙ ap (value_of_text sought time now) (append_assoc (time_line turn) (byte ∷ lines) rest)
      ∙ time_passes sought time now turn (codes "#" ++ decimal turn) ((byte ∷ lines) ++ rest)
      (time_whole turn) (time_read turn small) refl
      ∙ gives.read rest ∙ ap (λ behind. option_or behind (given turn)) (same turn)

  -- what some turns from a first one on give
  abbrev given_from : ℕ → ℕ → Option (List ℕ)
  given_from first zero = None
  given_from first (suc count) = option_or (given_from (first + 1) count) (given first)

  -- the last line, which has the time behind the turns
  end_read : (turns now : ℕ) → turns < 2 ^ 64
      → value_of_text sought time now (time_line turns) ≡ None
  end_read turns now small =
      ap (value_of_text sought time now) (sym (append-nil (time_line turns)))
      ∙ time_passes sought time now turns (codes "#" ++ decimal turns) [] (time_whole turns)
      (time_read turns small) refl
      ∙ given_none time turns

  turns_read : (names : List ℕ) → slice_get names number ≡ Some name
      → (turns : ℕ) → turns < 2 ^ 64 → (first count : ℕ) → first + count ≤ turns → (now : ℕ)
      → value_of_text sought time now
      (flat_map (turn_text images names start) (range_with_len first count) ++ time_line turns)
      ≡ given_from first count
  unfolding turn_text
  turns_read names at turns small first zero few now = end_read turns now small
  turns_read names at turns small first (suc count) few now =
      let rest =
      flat_map (turn_text images names start) (range_with_len (first + 1) count) in
      ap (value_of_text sought time now)
      (append_assoc (turn_text images names start first) rest (time_line turns))
      ∙ turn_read first now (flat_map (node_changes images start first) (numbered names))
      (rest ++ time_line turns) (given_from (first + 1) count) (omega arith)
      (changes_give first names at)
      (turns_read names at turns small (first + 1) count (omega arith))

  -- one turn more
  given_more : (first count : ℕ)
      → given_from first (suc count) ≡ option_or (given (first + count)) (given_from first count)
  given_more first zero =
      let same : first ≡ first + 0 = omega arith in
      ap given same ∙ sym (or_none (given (first + 0)))
  given_more first (suc count) =
      let same : first + 1 + count ≡ first + suc count = omega arith in
      ap (λ found. option_or found (given first)) (given_more (first + 1) count)
      ∙ or_assoc (given (first + 1 + count)) (given_from (first + 1) count) (given first)
      ∙ ap (λ turn. option_or (given turn) (given_from first (suc count))) same

  given_next : (count : ℕ)
      → given_from 0 (suc count) ≡ option_or (given count) (given_from 0 count)
  given_next count =
      let same : 0 + count ≡ count = omega arith in
      given_more 0 count ∙ ap (λ turn. option_or (given turn) (given_from 0 count)) same

  early : (turn : ℕ) → turn ≤ time
      → given turn ≡ option_map (value_text images name) (written_in start name signal turn)
  early turn few =
      ap (λ reached. if reached
      then option_map (value_text images name) (written_in start name signal turn) else None)
      (le-leb turn time few)

  late : (turn : ℕ) → time < turn → given turn ≡ None
  late turn more =
      ap (λ reached. if reached
      then option_map (value_text images name) (written_in start name signal turn) else None)
      (lt-leb turn time more)

  -- the turns up to one
  given_up_to : (turn : ℕ) → turn ≤ time
      → given_from 0 (suc turn)
      ≡ option_map (value_text images name) (last_written start name signal turn)
  given_up_to zero few = early 0 few
  given_up_to (suc turn) few =
      given_next (suc turn)
      ∙ ap₂ option_or (early (suc turn) few) (given_up_to turn (omega arith))
      ∙ by (written_in start name signal (suc turn)) (last_written start name signal turn)
    where
      by : (one other : Option Value)
          → option_or (option_map (value_text images name) one)
          (option_map (value_text images name) other)
          ≡ option_map (value_text images name) (option_or one other)
      by None other = refl
      by (Some value) other = refl

  -- later turns give nothing
  given_behind : (more : ℕ) → given_from 0 (suc time + more) ≡ given_from 0 (suc time)
  given_behind zero =
      let same : suc time + 0 ≡ suc time = omega arith in ap (given_from 0) same
  given_behind (suc more) =
      let same : suc time + suc more ≡ suc (suc time + more) = omega arith in
      ap (given_from 0) same ∙ given_next (suc time + more)
      ∙ ap (λ turn. option_or turn (given_from 0 (suc time + more)))
      (late (suc time + more) (omega arith))
      ∙ given_behind more

  given_in_all : (turns : ℕ) → time < turns
      → given_from 0 turns
      ≡ Some (value_text images name (value_of signal (shown_in start time name)))
  given_in_all turns few =
      let same : turns ≡ suc time + (turns - suc time) = omega arith in
      ap (given_from 0) same ∙ given_behind (turns - suc time) ∙ given_up_to time (omega arith)
      ∙ last_values images start name signal time

  pub read : (nodes : List ℕ) → slice_get (shown_names nodes) number ≡ Some name
      → (turns : ℕ) → turns < 2 ^ 64 → time < turns
      → read_at (waveform images nodes start turns) sought time
      ≡ Some (value_text images name (value_of signal (shown_in start time name)))
  unfolding read_at waveform
  read nodes at turns small few =
      let names = shown_names nodes in
      let blocks = flat_map (turn_text images names start) (range_with_len 0 turns) in
      ap (λ text. last_value sought time (timed 0 (behind_declarations (lines_in text))))
      (append_assoc (header names) blocks (time_line turns))
      ∙ ap (λ lines. last_value sought time (timed 0 lines))
      (behind_header names (blocks ++ time_line turns))
      ∙ turns_read names at turns small 0 turns (omega arith) 0
      ∙ given_in_all turns few

pub reads_back : ReadsBack
reads_back images nodes start number name signal turns turn words at has small few =
    read images words start number name signal has turn nodes at turns small few
