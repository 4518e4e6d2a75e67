-- What the values that are written for a waveform show of a run.
use Rattle.std.proofs.Common.{◌≡◌, ◌∙◌, ℕ, suc, ◌+◌, [], ◌++◌, Option, Some, None, ap, option_map, refl, sym}
use Rattle.std.specs.Option.{option_and_then, option_or, option_to_list}
use Rattle.ga_place.specs.Cell.{cell_of}
use Rattle.ga_place.specs.declared.side.Side.{Side}
use Rattle.ga_chip.specs.Chip.{Chip, pending}
use Rattle.ga_chip.specs.Legal.{IsLegal}
use Rattle.ga_observe.specs.Seen.{steps_seen, turns_numbered}
use Rattle.ga_wave.specs.Laws.{IdentifiersDiffer, LastValuesAreShown, WordsAreInOrder, last_written, words_posted}
use Rattle.ga_wave.specs.Sample.{pending_at}
use Rattle.ga_wave.specs.Value.{value_of, value_text}
use Rattle.ga_wave.specs.Wave.{chip_behind, shown_in}
use Rattle.ga_law_examples.specs.Waveforms.{HasNoWords, NodesAreApart, UnwrittenIsKept, WrittenArePosted}

pub unwritten_is_kept : (start : Chip) → LastValuesAreShown → UnwrittenIsKept start
unwritten_is_kept start last name signal turn unwritten =
    let now = last [] start name signal (suc turn) in
    let before = last [] start name signal turn in
    let same : option_map (value_text [] name) (last_written start name signal (suc turn))
    ≡ option_map (value_text [] name) (last_written start name signal turn) =
    ap (λ written. option_map (value_text [] name)
    (option_or written (last_written start name signal turn))) unwritten in
    let texts : Some (value_text [] name (value_of signal (shown_in start (suc turn) name)))
    ≡ Some (value_text [] name (value_of signal (shown_in start turn name))) =
    sym now ∙ same ∙ before in
    cc

pub nodes_are_apart : IdentifiersDiffer → NodesAreApart
nodes_are_apart differ number other one two apart same =
    apart (differ number other one two same).0

none_pending : (start : Chip) (name : ℕ) (side : Side) → HasNoWords start
    → pending_at start name side ≡ None
none_pending start name side none = by (cell_of name side)
  where
    by : (cell : Option ℕ) → option_and_then (λ at. pending start at) cell ≡ None
    by None = refl
    by (Some cell) = none cell

pub written_are_posted : (start : Chip) → IsLegal start → WordsAreInOrder → HasNoWords start
    → WrittenArePosted start
written_are_posted start legal in_order none name side turn =
    in_order start name side turn legal
    ∙ ap (λ word. option_to_list
    (option_and_then (λ other. pending_at (chip_behind start 1) name side) word)
    ++ words_posted name side (steps_seen start (turns_numbered (turn + 1))))
    (none_pending start name side none)
