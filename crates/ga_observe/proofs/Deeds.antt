-- The step that a try makes is the one that the node's need shows before it.
use Rattle.std.proofs.Common.{◌≡◌, ℕ, Bool, true, false, List, [], ◌∷◌, Option, Some, None, option_map, slice_get, length, refl, sym, ap, ◌∙◌, subst, append-nil, arith}
use Rattle.std.specs.Prelude.{if◌then◌else◌, unwrap_or}
use Rattle.std.specs.List.{flat_map}
use Rattle.std.specs.Option.{option_and_then}
use Rattle.std.proofs.lemmas.Option.{none-some, same_Some}
use Rattle.ga_place.specs.Cell.{cell_of, read_cell}
use Rattle.ga_place.specs.Side.{is_among, one_side}
use Rattle.ga_place.specs.declared.side.Side.{Side}
use Rattle.ga_place.specs.declared.side.Sides.{Sides}
use Rattle.ga_node.specs.State.{State}
use Rattle.ga_node.specs.Need.{need_of}
use Rattle.ga_node.specs.declared.need.Need.{Need}
use Rattle.ga_node.specs.declared.place.Place.{Place}
use Rattle.ga_node.specs.declared.need.Need.TheVariants as need
use Rattle.ga_chip.specs.declared.outcome.Outcome.TheVariants.{Moved, Waits, Stopped}
use Rattle.ga_chip.specs.Part.{Part, Asks, Post, Take, Check, after, after_asked, asks, asks_by, at_cell, input_of, looked_at, picked_by, take_from}
use Rattle.ga_chip.specs.Chip.{Chip, found_by, part_of, pending_in, state_of, tried}
use Rattle.ga_chip.specs.Legal.{IsLegal}
use Rattle.ga_chip.specs.Run.{Move, Try, if_moved, move_at, move_in, words_left}
use Rattle.ga_chip.specs.Stream.{next_input}
use Rattle.ga_chip.proofs.Parts.{moved_asks}
use Rattle.ga_chip.proofs.Tries.{tried_there}
use Rattle.ga_chip.proofs.Turns.{count_moves, no_move}
use Rattle.ga_observe.specs.declared.step.Deed.{Deed}
use Rattle.ga_observe.specs.declared.step.Deed.TheVariants as did
use Rattle.ga_observe.specs.declared.step.Step.{Step}
use Rattle.ga_observe.specs.Seen.{deed_of, steps_by, steps_in}
use Rattle.ga_observe.specs.inner.Next.{deed_by, take_by, took, took_input}

waits_not : Waits ≡ Moved → ⊥
waits_not e = cc

stopped_not : Stopped ≡ Moved → ⊥
stopped_not e = cc

-- whether a try is moved that asks for this
abbrev Moves : Asks → List (Option ℕ) → Part → Type 0
Moves asked cells part = (after_asked asked (found_by asked cells) part).0 ≡ Moved

-- what its node then does, by its need
abbrev deed_at : Need → Asks → List (Option ℕ) → Deed
deed_at needs asked cells = deed_of needs asked (found_by asked cells)

-- a take by the word that it finds
took_word : (sides : Sides) (side : Side) (cell : ℕ) (found : Option ℕ) (part : Part)
    → (after_asked (Take side cell) found part).0 ≡ Moved
    → deed_of (need.Take sides) (Take side cell) found ≡ took side sides found
took_word sides side cell None part moved = absurd (waits_not moved)
took_word sides side cell (Some word) part moved = refl

took_cell : (sides : Sides) (side : Side) (at : Option ℕ) (cells : List (Option ℕ)) (part : Part)
    → Moves (at_cell (Take side) at) cells part
    → deed_at (need.Take sides) (at_cell (Take side) at) cells
    ≡ took side sides (option_and_then (λ cell. pending_in cells cell) at)
took_cell sides side None cells part moved = absurd (waits_not moved)
took_cell sides side (Some cell) cells part moved =
    took_word sides side cell (pending_in cells cell) part moved

took_among : (sides : Sides) (side : Side) (name : ℕ) (cells : List (Option ℕ)) (part : Part)
    (among : Bool) → Moves (take_from name (if among then Some side else None)) cells part
    → deed_at (need.Take sides) (take_from name (if among then Some side else None)) cells
    ≡ take_by side sides name cells
took_among sides side name cells part true moved =
    took_cell sides side (read_cell name side) cells part moved
took_among sides side name cells part false moved = absurd (waits_not moved)

took_side : (sides : Sides) (side : Side) (name : ℕ) (cells : List (Option ℕ)) (part : Part)
    (only : Option Side) → Moves (take_from name (looked_at only sides side)) cells part
    → deed_at (need.Take sides) (take_from name (looked_at only sides side)) cells
    ≡ take_by (unwrap_or only side) sides name cells
took_side sides side name cells part (Some only) moved =
    took_cell sides only (read_cell name only) cells part moved
took_side sides side name cells part None moved =
    took_among sides side name cells part (is_among side sides) moved

posted_cell : (to : Side) (word : ℕ) (at : Option ℕ) (cells : List (Option ℕ)) (part : Part)
    → Moves (at_cell (λ cell. Post to cell word) at) cells part
    → deed_at (need.Post to word) (at_cell (λ cell. Post to cell word) at) cells
    ≡ did.Posted to word
posted_cell to word None cells part moved = absurd (waits_not moved)
posted_cell to word (Some cell) cells part moved = refl

checked_cell : (to : Side) (at : Option ℕ) (cells : List (Option ℕ)) (part : Part)
    → Moves (at_cell (Check to) at) cells part
    → deed_at (need.Check to) (at_cell (Check to) at) cells ≡ did.SawRead to
checked_cell to None cells part moved = absurd (waits_not moved)
checked_cell to (Some cell) cells part moved = refl

took_next : (stream : Option (List ℕ)) (cells : List (Option ℕ)) (part : Part)
    → Moves (input_of stream) cells part
    → deed_at need.Input (input_of stream) cells ≡ took_input (slice_get (words_left stream) 0)
took_next None cells part moved = absurd (waits_not moved)
took_next (Some []) cells part moved = absurd (waits_not moved)
took_next (Some (word ∷ rest)) cells part moved = refl

-- what a node does by a try that is moved, by its need
same_deed : (needs : Need) (name : ℕ) (stream : Option (List ℕ)) (cells : List (Option ℕ))
    (side : Side) (part : Part) → Moves (asks_by needs name stream side) cells part
    → deed_at needs (asks_by needs name stream side) cells
    ≡ deed_by needs name cells (slice_get (words_left stream) 0) side
same_deed need.Own name stream cells side part moved = refl
same_deed (need.Take sides) name stream cells side part moved =
    took_side sides side name cells part (one_side sides) moved
same_deed (need.Post to word) name stream cells side part moved =
    posted_cell to word (cell_of name to) cells part moved
same_deed (need.Check to) name stream cells side part moved =
    checked_cell to (cell_of name to) cells part moved
same_deed need.Input name stream cells side part moved = took_next stream cells part moved
same_deed (need.Stopped stop) name stream cells side part moved = absurd (stopped_not moved)

-- the move that a try is, if it is moved
abbrev move_by : Chip → ℕ → Side → Part → Move
move_by chip name side part = record {
  node = name;
  asked = asks part side;
  found = found_by (asks part side) chip.cells;
  picked = picked_by (need_of part.state) side;
}

its_move : (chip : Chip) (name : ℕ) (side : Side) (part : Part) → part_of chip name ≡ Some part
    → (tried chip name side).0 ≡ Moved
    → move_in chip (Try name side) ≡ move_by chip name side part ∷ []
unfolding move_in
its_move chip name side part there moved =
    ap (λ o. move_at o chip name side) there
    ∙ ap (λ o. if_moved o (move_by chip name side part))
    (sym (ap (λ r. r.0) (tried_there chip name side part there)) ∙ moved)

-- what its node asked for, and so what it did
its_deed : (chip : Chip) (name : ℕ) (side : Side) (part : Part) → IsLegal chip
    → part_of chip name ≡ Some part → (tried chip name side).0 ≡ Moved
    → deed_at (need_of part.state) (asks part side) chip.cells
    ≡ deed_by (need_of part.state) name chip.cells (slice_get (words_left part.stream) 0) side
unfolding after
its_deed chip name side part legal there moved =
    let made : (after part side (found_by (asks part side) chip.cells)).0 ≡ Moved =
    sym (ap (λ r. r.0) (tried_there chip name side part there)) ∙ moved in
    let asked : asks part side ≡ asks_by (need_of part.state) name part.stream side =
    moved_asks part side (found_by (asks part side) chip.cells) made
    ∙ ap (λ n. asks_by (need_of part.state) n part.stream side) (legal.named name part there) in
    ap (λ q. deed_at (need_of part.state) q chip.cells) asked
    ∙ same_deed (need_of part.state) name part.stream chip.cells side part
    (subst (λ q. Moves q chip.cells part) asked made)

-- a step, by its parts
abbrev pub step_from : ℕ → ℕ → ℕ → Place → ℕ → ℕ → Deed → Step
step_from name turn number place p word deed = record {
  node = name;
  number = number;
  turn = turn;
  place = place;
  p = p;
  word = word;
  deed = deed;
}

-- a step of a node in this state that does this
abbrev step_with : ℕ → ℕ → State → Deed → Step
step_with name turn state deed =
    step_from name turn state.steps state.place state.p state.word deed

its_step : (chip : Chip) (name turn : ℕ) (side : Side) (part : Part) → IsLegal chip
    → part_of chip name ≡ Some part → (tried chip name side).0 ≡ Moved
    → steps_in turn chip (Try name side)
    ≡ step_with name turn part.state (deed_by (need_of part.state) name chip.cells
    (slice_get (words_left part.stream) 0) side) ∷ []
unfolding steps_in
its_step chip name turn side part legal there moved =
    ap (flat_map (λ (move : Move). steps_by turn (state_of chip move.node) move))
    (its_move chip name side part there moved)
    ∙ append-nil (steps_by turn (state_of chip name) (move_by chip name side part))
    ∙ ap (λ o. steps_by turn (option_map (λ (p : Part). p.state) o)
    (move_by chip name side part)) there
    ∙ ap (λ d. step_with name turn part.state d ∷ [])
    (its_deed chip name side part legal there moved)

step_by_state : (chip : Chip) (name turn : ℕ) (side : Side) (state : State) (needs : Need)
    (deed : Deed) → IsLegal chip → Some state ≡ state_of chip name → needs ≡ need_of state
    → deed ≡ deed_by needs name chip.cells (next_input chip name) side
    → (tried chip name side).0 ≡ Moved
    → steps_in turn chip (Try name side) ≡ step_with name turn state deed ∷ []
step_by_state chip name turn side state needs deed legal is need_is deed_is moved =
    by (part_of chip name) refl
  where
    here : (part : Part) → part_of chip name ≡ Some part → state ≡ part.state
        → deed ≡ deed_by (need_of part.state) name chip.cells
        (slice_get (words_left part.stream) 0) side
    here part there same =
        deed_is
        ∙ ap (λ n. deed_by n name chip.cells (next_input chip name) side)
        (need_is ∙ ap need_of same)
        ∙ ap (λ (o : Option Part). deed_by (need_of part.state) name chip.cells
        (option_and_then (λ (p : Part). slice_get (words_left p.stream) 0) o) side) there

    by : (o : Option Part) → part_of chip name ≡ o
        → steps_in turn chip (Try name side) ≡ step_with name turn state deed ∷ []
    by None e =
        absurd (none-some state (sym (is ∙ ap (option_map (λ (part : Part). part.state)) e)))
    by (Some part) e =
        let same : state ≡ part.state =
        same_Some state part.state (is ∙ ap (option_map (λ (part : Part). part.state)) e) in
        its_step chip name turn side part legal e moved
        ∙ ap (λ d. step_with name turn part.state d ∷ []) (sym (here part e same))
        ∙ ap (λ s. step_with name turn s deed ∷ []) (sym same)

-- The step of a try that is moved, by what the code reads before the try.
pub step_made : (chip : Chip) (name turn : ℕ) (side : Side) (state : State) (needs : Need)
    (deed : Deed) (number : ℕ) (place : Place) (p word : ℕ) → IsLegal chip
    → Some state ≡ state_of chip name → needs ≡ need_of state
    → deed ≡ deed_by needs name chip.cells (next_input chip name) side → number ≡ state.steps
    → place ≡ state.place → p ≡ state.p → word ≡ state.word → (tried chip name side).0 ≡ Moved
    → steps_in turn chip (Try name side)
    ≡ step_from name turn number place p word deed ∷ []
step_made chip name turn side state needs deed number place p word legal is need_is deed_is
    number_is place_is p_is word_is moved =
    step_by_state chip name turn side state needs deed legal is need_is deed_is moved
    ∙ ap (λ n. step_from name turn n state.place state.p state.word deed ∷ []) (sym number_is)
    ∙ ap (λ q. step_from name turn number q state.p state.word deed ∷ []) (sym place_is)
    ∙ ap (λ n. step_from name turn number place n state.word deed ∷ []) (sym p_is)
    ∙ ap (λ n. step_from name turn number place p n deed ∷ []) (sym word_is)

pub no_moves : (moves : List Move) → length moves ≡ 0 → moves ≡ []
no_moves [] e = refl
no_moves (move ∷ moves) e = absurd (omega arith)

-- a try that isn't moved is no step
pub no_step : (chip : Chip) (name turn : ℕ) (side : Side) → ((tried chip name side).0 ≡ Moved → ⊥)
    → steps_in turn chip (Try name side) ≡ []
unfolding steps_in
no_step chip name turn side still =
    ap (flat_map (λ (move : Move). steps_by turn (state_of chip move.node) move))
    (no_moves (move_in chip (Try name side))
    (count_moves chip name side ∙ no_move (tried chip name side).0 still))
