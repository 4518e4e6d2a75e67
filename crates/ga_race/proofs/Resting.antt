-- A try that doesn't go, by what is seen before it, is neither moved nor held.
use Rattle.std.proofs.Common.{◌≡◌, ℕ, Bool, true, false, List, [], ◌∷◌, Option, Some, None, option_map, refl, sym, ap, ◌∙◌, subst}
use Rattle.std.specs.Prelude.{◌≢◌, ◌&&◌, if◌then◌else◌, is_none, is_some, slice_get}
use Rattle.std.specs.Option.{option_and_then, option_map_or}
use Rattle.std.proofs.lemmas.Bool.{true≢false}
use Rattle.std.proofs.lemmas.Option.{none-some, same_Some}
use Rattle.ga_node.specs.State.{State}
use Rattle.ga_place.specs.Cell.{cell_of, read_cell}
use Rattle.ga_place.specs.Side.{is_among, one_side}
use Rattle.ga_place.specs.declared.side.Side.{Side}
use Rattle.ga_place.specs.declared.side.Side.TheVariants.{Right}
use Rattle.ga_place.specs.declared.side.Sides.{Sides}
use Rattle.ga_node.specs.Need.{need_of}
use Rattle.ga_node.specs.declared.need.Need.{Need}
use Rattle.ga_node.specs.declared.need.Need.TheVariants as need
use Rattle.ga_chip.specs.declared.outcome.Outcome.{Outcome}
use Rattle.ga_chip.specs.declared.outcome.Outcome.TheVariants.{Held, Moved, Stopped, Waits}
use Rattle.ga_chip.specs.Part.{Part, Asks, Post, Take, Check, after, after_asked, asks, asks_by, asks_if, at_cell, held_by, input_of, is_held, looked_at, take_from}
use Rattle.ga_chip.specs.Chip.{Chip, found_by, part_of, pending_in, state_of, tried}
use Rattle.ga_chip.specs.Legal.{IsLegal}
use Rattle.ga_chip.specs.Run.{is_hold, stands_held, words_left}
use Rattle.ga_chip.specs.Stream.{next_input}
use Rattle.ga_chip.specs.Stuck.{is_full}
use Rattle.ga_chip.proofs.Tries.{tried_there}
use Rattle.ga_race.specs.inner.Going.{goes_at, goes_by}

-- an outcome by which the node doesn't go on, and isn't held
abbrev Rests : Outcome → Type 0
Rests outcome = (outcome ≢ Moved) × (outcome ≢ Held)

waits_rests : Rests Waits
waits_rests = (λ e. cc, λ e. cc)

stopped_rests : Rests Stopped
stopped_rests = (λ e. cc, λ e. cc)

-- what a try comes to that asks for this
abbrev RestsBy : Asks → List (Option ℕ) → Part → Type 0
RestsBy asked cells part = Rests (after_asked asked (found_by asked cells) part).0

take_rests : (side : Side) (cell : ℕ) (found : Option ℕ) (part : Part) → is_some found ≡ false
    → Rests (after_asked (Take side cell) found part).0
take_rests side cell None part none = waits_rests
take_rests side cell (Some word) part none = absurd (true≢false none)

cell_rests : (side : Side) (at : Option ℕ) (cells : List (Option ℕ)) (part : Part)
    → is_full cells at ≡ false → RestsBy (at_cell (Take side) at) cells part
cell_rests side None cells part none = waits_rests
cell_rests side (Some cell) cells part none =
    take_rests side cell (pending_in cells cell) part none

among_rests : (side : Side) (name : ℕ) (cells : List (Option ℕ)) (part : Part) (among : Bool)
    → (among && is_full cells (read_cell name side)) ≡ false
    → RestsBy (take_from name (if among then Some side else None)) cells part
among_rests side name cells part true none = cell_rests side (read_cell name side) cells part none
among_rests side name cells part false none = waits_rests

side_rests : (sides : Sides) (side : Side) (name : ℕ) (cells : List (Option ℕ)) (part : Part)
    (only : Option Side) → goes_at only sides name cells side ≡ false
    → RestsBy (take_from name (looked_at only sides side)) cells part
side_rests sides side name cells part (Some only) none =
    cell_rests only (read_cell name only) cells part none
side_rests sides side name cells part None none =
    among_rests side name cells part (is_among side sides) none

post_rests : (to : Side) (word : ℕ) (at : Option ℕ) (cells : List (Option ℕ)) (part : Part)
    → is_some at ≡ false → RestsBy (at_cell (λ cell. Post to cell word) at) cells part
post_rests to word None cells part none = waits_rests
post_rests to word (Some cell) cells part none = absurd (true≢false none)

found_rests : (to : Side) (cell : ℕ) (found : Option ℕ) (part : Part) → is_none found ≡ false
    → Rests (after_asked (Check to cell) found part).0
found_rests to cell None part none = absurd (true≢false none)
found_rests to cell (Some word) part none = waits_rests

check_rests : (to : Side) (at : Option ℕ) (cells : List (Option ℕ)) (part : Part)
    → option_map_or (λ cell. is_none (pending_in cells cell)) at false ≡ false
    → RestsBy (at_cell (Check to) at) cells part
check_rests to None cells part none = waits_rests
check_rests to (Some cell) cells part none =
    found_rests to cell (pending_in cells cell) part none

input_rests : (stream : Option (List ℕ)) (cells : List (Option ℕ)) (part : Part)
    → is_some (slice_get (words_left stream) 0) ≡ false → RestsBy (input_of stream) cells part
input_rests None cells part none = waits_rests
input_rests (Some []) cells part none = waits_rests
input_rests (Some (word ∷ rest)) cells part none = absurd (true≢false none)

-- what a try comes to that doesn't go, by the node's need
need_rests : (needs : Need) (name : ℕ) (stream : Option (List ℕ)) (cells : List (Option ℕ))
    (side : Side) (part : Part)
    → goes_by needs name cells (slice_get (words_left stream) 0) side ≡ false
    → RestsBy (asks_by needs name stream side) cells part
need_rests need.Own name stream cells side part none = absurd (true≢false none)
need_rests (need.Take sides) name stream cells side part none =
    side_rests sides side name cells part (one_side sides) none
need_rests (need.Post to word) name stream cells side part none =
    post_rests to word (cell_of name to) cells part none
need_rests (need.Check to) name stream cells side part none =
    check_rests to (cell_of name to) cells part none
need_rests need.Input name stream cells side part none = input_rests stream cells part none
need_rests (need.Stopped stop) name stream cells side part none = stopped_rests

-- a node at a breakpoint is held, unless it is stopped
held_rests : (needs : Need) (cells : List (Option ℕ)) (part : Part)
    → is_hold (held_by needs) ≡ false → RestsBy (held_by needs) cells part
held_rests (need.Stopped stop) cells part none = stopped_rests
held_rests need.Own cells part none = absurd (true≢false none)
held_rests (need.Take sides) cells part none = absurd (true≢false none)
held_rests (need.Post to word) cells part none = absurd (true≢false none)
held_rests (need.Check to) cells part none = absurd (true≢false none)
held_rests need.Input cells part none = absurd (true≢false none)

-- what a try comes to that doesn't go, whether or not the node is at a breakpoint
asked_rests : (at_break : Bool) (part : Part) (side : Side) (cells : List (Option ℕ))
    → is_hold (asks_if at_break part Right) ≡ false
    → goes_by (need_of part.state) part.state.node cells (slice_get (words_left part.stream) 0) side
    ≡ false → RestsBy (asks_if at_break part side) cells part
asked_rests true part side cells free none = held_rests (need_of part.state) cells part free
asked_rests false part side cells free none =
    need_rests (need_of part.state) part.state.node part.stream cells side part none

part_rests : (part : Part) (side : Side) (cells : List (Option ℕ))
    → is_hold (asks part Right) ≡ false
    → goes_by (need_of part.state) part.state.node cells (slice_get (words_left part.stream) 0) side
    ≡ false → Rests (after part side (found_by (asks part side) cells)).0
unfolding asks after
part_rests part side cells free none = asked_rests (is_held part) part side cells free none

-- a try that doesn't go is neither moved nor held
try_rests : (chip : Chip) (name : ℕ) (side : Side) (part : Part) → IsLegal chip
    → part_of chip name ≡ Some part → stands_held chip name ≡ false
    → goes_by (need_of part.state) name chip.cells (next_input chip name) side ≡ false
    → ((tried chip name side).0 ≢ Moved) × ((tried chip name side).0 ≢ Held)
try_rests chip name side part legal there free none =
    let unheld : is_hold (asks part Right) ≡ false =
    sym (ap (λ o. option_map_or (λ (p : Part). is_hold (asks p Right)) o false) there) ∙ free in
    let input : next_input chip name ≡ slice_get (words_left part.stream) 0 =
    ap (λ o. option_and_then (λ (p : Part). slice_get (words_left p.stream) 0) o) there in
    let still : goes_by (need_of part.state) part.state.node chip.cells
    (slice_get (words_left part.stream) 0) side ≡ false =
    ap (λ n. goes_by (need_of part.state) n chip.cells (slice_get (words_left part.stream) 0) side)
    (legal.named name part there)
    ∙ sym (ap (λ i. goes_by (need_of part.state) name chip.cells i side) input) ∙ none in
    subst Rests (sym (ap (λ r. r.0) (tried_there chip name side part there)))
    (part_rests part side chip.cells unheld still)

-- the same by what the code reads before the try
pub state_rests : (chip : Chip) (name : ℕ) (side : Side) (state : State) (needs : Need)
    (goes : Bool) → IsLegal chip → Some state ≡ state_of chip name
    → stands_held chip name ≡ false → needs ≡ need_of state
    → goes ≡ goes_by needs name chip.cells (next_input chip name) side → goes ≡ false
    → ((tried chip name side).0 ≢ Moved) × ((tried chip name side).0 ≢ Held)
state_rests chip name side state needs goes legal is free need_is goes_is none =
    by (part_of chip name) refl
  where
    by : (o : Option Part) → part_of chip name ≡ o
        → ((tried chip name side).0 ≢ Moved) × ((tried chip name side).0 ≢ Held)
    by None e =
        absurd (none-some state (sym (is ∙ ap (option_map (λ (part : Part). part.state)) e)))
    by (Some part) e =
        let same : state ≡ part.state =
        same_Some state part.state (is ∙ ap (option_map (λ (part : Part). part.state)) e) in
        try_rests chip name side part legal e free
        (ap (λ n. goes_by n name chip.cells (next_input chip name) side)
        (sym (need_is ∙ ap need_of same)) ∙ sym goes_is ∙ none)
