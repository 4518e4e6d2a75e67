-- The words that a node posts at a side, by its moves.
use Rattle.std.proofs.Common.{◌≡◌, ◌∙◌, ℕ, ◌==◌, Bool, true, false, cond, List, [], ◌∷◌, ◌++◌, Option, Some, None, ap, ap₂, filter_map, option_map, refl, sym, if◌then◌else◌}
use Rattle.std.specs.List.{cons_option, flat_map}
use Rattle.std.proofs.lemmas.List.Elements.{filter_map-append}
use Rattle.ga_place.specs.Side.{side_bit}
use Rattle.ga_place.specs.declared.side.Side.{Side}
use Rattle.ga_node.specs.State.{State}
use Rattle.ga_node.specs.Need.{need_of}
use Rattle.ga_node.specs.declared.need.Need.{Need}
use Rattle.ga_chip.specs.declared.outcome.Outcome.{Outcome}
use Rattle.ga_chip.specs.declared.outcome.Outcome.TheVariants.{Moved, Waits, Held, Stopped}
use Rattle.ga_chip.specs.Part.{Part, Asks, Nothing, Own, Feed, Post, Take, Check, after, asks, picked_by}
use Rattle.ga_chip.specs.Chip.{Chip, found_by, part_of, state_of}
use Rattle.ga_chip.specs.Run.{ClearBreak, Event, Move, PassBreak, Piece, SetBreak, Try, happened, if_moved, move_at, move_in, moves, moves_of}
use Rattle.ga_chip.proofs.Runs.{moves_of-append}
use Rattle.ga_observe.specs.declared.step.Step.{Step}
use Rattle.ga_observe.specs.Laws.{events_in}
use Rattle.ga_observe.specs.Seen.{deed_of, step_of, steps_by, steps_in, steps_seen}
use Rattle.ga_trace.specs.Watched.{posted_at}
use Rattle.ga_wave.specs.Laws.{word_posted, words_posted}

-- the word that a try posts at a side, by what it asks for, and those that moves post there
abbrev pub asked_at : Side → Asks → Option ℕ
asked_at side (Post to cell word) = if side_bit to == side_bit side then Some word else None
asked_at side asked = None

abbrev pub words_by : Side → List Move → List ℕ
words_by side made = filter_map (λ (move : Move). asked_at side move.asked) made

same_word : (side : Side) (needs : Need) (asked : Asks) (found : Option ℕ)
    → posted_at side (deed_of needs asked found) ≡ asked_at side asked
same_word side needs (Nothing outcome) found = refl
same_word side needs Own found = refl
same_word side needs (Feed word) found = refl
same_word side needs (Post to cell word) found = refl
same_word side needs (Take at cell) found = refl
same_word side needs (Check at cell) found = refl

-- the steps of moves at a chip
abbrev steps_of : ℕ → Chip → List Move → List Step
steps_of turn chip made =
    flat_map (λ (move : Move). steps_by turn (state_of chip move.node) move) made

module _ (name : ℕ) (side : Side) where
  -- the step of a move
  one_step : (turn : ℕ) (state : State) (move : Move)
      → words_posted name side (step_of turn state move ∷ [])
      ≡ words_by side (moves_of name (move ∷ []))
  one_step turn state move = by (move.node == name)
    where
      by : (own : Bool)
          → cons_option (if own then posted_at side (deed_of (need_of state) move.asked move.found)
          else None) []
          ≡ words_by side (cond own (move ∷ []) [])
      by true =
          ap (λ o. cons_option o []) (same_word side (need_of state) move.asked move.found)
      by false = refl

  -- the steps of an event
  if_made : (turn : ℕ) (chip : Chip) (part : Part) (outcome : Outcome) (move : Move)
      → part_of chip move.node ≡ Some part
      → words_posted name side (steps_of turn chip (if_moved outcome move))
      ≡ words_by side (moves_of name (if_moved outcome move))
  if_made turn chip part Moved move there =
      ap (λ (o : Option Part). words_posted name side
      (steps_by turn (option_map (λ (p : Part). p.state) o) move ++ [])) there
      ∙ one_step turn part.state move
  if_made turn chip part Waits move there = refl
  if_made turn chip part Held move there = refl
  if_made turn chip part Stopped move there = refl

  by_try : (turn : ℕ) (chip : Chip) (node : ℕ) (at : Side) (found : Option Part)
      → part_of chip node ≡ found
      → words_posted name side (steps_of turn chip (move_at found chip node at))
      ≡ words_by side (moves_of name (move_at found chip node at))
  by_try turn chip node at None there = refl
  by_try turn chip node at (Some part) there =
      if_made turn chip part (after part at (found_by (asks part at) chip.cells)).0 (record {
        node = node;
        asked = asks part at;
        found = found_by (asks part at) chip.cells;
        picked = picked_by (need_of part.state) at;
      }) there

  by_event : (turn : ℕ) (chip : Chip) (event : Event)
      → words_posted name side (steps_in turn chip event)
      ≡ words_by side (moves_of name (move_in chip event))
  unfolding steps_in move_in
  by_event turn chip (Try node at) = by_try turn chip node at (part_of chip node) refl
  by_event turn chip (SetBreak node at) = refl
  by_event turn chip (ClearBreak node at) = refl
  by_event turn chip (PassBreak node) = refl
  by_event turn chip (Piece node words) = refl

  -- the steps of a run
  pub posted_by_moves : (chip : Chip) (events : List (ℕ × Event))
      → words_posted name side (steps_seen chip events)
      ≡ words_by side (moves_of name (moves chip (events_in events)))
  posted_by_moves chip [] = refl
  posted_by_moves chip (next ∷ events) =
      let later = happened chip next.1 in
      let here = move_in chip next.1 in
      let rest = moves later (events_in events) in
      filter_map-append (word_posted name side) (steps_in next.0 chip next.1)
      (steps_seen later events)
      ∙ ap₂ (λ one more. one ++ more) (by_event next.0 chip next.1) (posted_by_moves later events)
      ∙ sym (filter_map-append (λ (move : Move). asked_at side move.asked) (moves_of name here)
      (moves_of name rest))
      ∙ ap (words_by side) (sym (moves_of-append name here rest))
