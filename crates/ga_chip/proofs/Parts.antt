-- What a try asks for, and what it leaves of the node's part.
use Rattle.std.proofs.Common.{◌≡◌, ℕ, ◌≤◌, arith, ◌+◌, ◌==◌, Bool, true, false, List, [], ◌∷◌, ◌++◌, length, Option, Some, None, refl, sym, ap, ◌∙◌, subst, add-zero}
use Rattle.std.specs.Prelude.{if◌then◌else◌}
use Rattle.std.proofs.lemmas.Bool.{eqb-true, eqb-false}
use Rattle.std.proofs.lemmas.Option.{same_Some}
use Rattle.ga_place.specs.Node.{IsNodeName}
use Rattle.ga_place.specs.Side.{one_side, side_bit}
use Rattle.ga_place.specs.declared.side.Side.{Side}
use Rattle.ga_place.specs.declared.side.Side.TheVariants.{Right, Down, Left, Up}
use Rattle.ga_place.specs.declared.side.Sides.{Sides}
use Rattle.ga_node.specs.State.{State}
use Rattle.ga_node.specs.Need.{need_of}
use Rattle.ga_node.specs.Slot.{step}
use Rattle.ga_node.specs.declared.need.Need.{Need}
use Rattle.ga_node.specs.declared.need.Need.TheVariants as need
use Rattle.ga_place.specs.Cell.{cell_of, read_cell}
use Rattle.ga_chip.specs.declared.outcome.Outcome.TheVariants.{Moved}
use Rattle.ga_chip.specs.Part.{Counts, Part, Asks, Nothing, Own, Feed, Post, Check, Take, after, after_asked, asks, asks_by, asks_if, at_cell, count_at, counted, held_by, input_of, is_held, looked_at, picked_by, picked_of, rest_of, take_from}
use Rattle.ga_chip.specs.Run.{input_by, posted_by, taken_by, words_left}
use Rattle.ga_place.proofs.Cells.{one_writer, one_reader, same_bit}
use Rattle.ga_node.proofs.Rows.{step_node, step_steps}

-- what is known of a node by what its try asks for
abbrev pub Fits : Asks → Need → ℕ → Type 0
Fits (Nothing outcome) n name = outcome ≡ Moved → ⊥
Fits Own n name = n ≡ need.Own
Fits (Feed fed) n name = n ≡ need.Input
Fits (Post side cell word) n name = (cell_of name side ≡ Some cell) × (n ≡ need.Post side word)
Fits (Check side cell) n name = (cell_of name side ≡ Some cell) × (n ≡ need.Check side)
Fits (Take side cell) n name =
    (sides : Sides) × (read_cell name side ≡ Some cell) × (n ≡ need.Take sides)

fits_take : (name : ℕ) (sides : Sides) (side : Side) (at : Option ℕ) → read_cell name side ≡ at
    → Fits (at_cell (Take side) at) (need.Take sides) name
fits_take name sides side (Some cell) e = (sides, e, refl)
fits_take name sides side None e = λ f. cc

fits_from : (name : ℕ) (sides : Sides) (at : Option Side)
    → Fits (take_from name at) (need.Take sides) name
fits_from name sides (Some side) = fits_take name sides side (read_cell name side) refl
fits_from name sides None = λ e. cc

fits_post : (name word : ℕ) (side : Side) (at : Option ℕ) → cell_of name side ≡ at
    → Fits (at_cell (λ it. Post side it word) at) (need.Post side word) name
fits_post name word side (Some cell) e = (e, refl)
fits_post name word side None e = λ f. cc

fits_check : (name : ℕ) (side : Side) (at : Option ℕ) → cell_of name side ≡ at
    → Fits (at_cell (Check side) at) (need.Check side) name
fits_check name side (Some cell) e = (e, refl)
fits_check name side None e = λ f. cc

fits_input : (name : ℕ) (stream : Option (List ℕ)) → Fits (input_of stream) need.Input name
fits_input name (Some (word ∷ rest)) = refl
fits_input name (Some []) = λ e. cc
fits_input name None = λ e. cc

fits_by : (n : Need) (name : ℕ) (stream : Option (List ℕ)) (side : Side)
    → Fits (asks_by n name stream side) n name
fits_by need.Own name stream side = refl
fits_by (need.Take sides) name stream side =
    fits_from name sides (looked_at (one_side sides) sides side)
fits_by (need.Post to word) name stream side = fits_post name word to (cell_of name to) refl
fits_by (need.Check to) name stream side = fits_check name to (cell_of name to) refl
fits_by need.Input name stream side = fits_input name stream
fits_by (need.Stopped stop) name stream side = λ e. cc

fits_held : (n : Need) (name : ℕ) → Fits (held_by n) n name
fits_held (need.Stopped stop) name = λ e. cc
fits_held _ name = λ e. cc

fits_if : (held : Bool) (part : Part) (side : Side)
    → Fits (asks_if held part side) (need_of part.state) part.state.node
fits_if true part side = fits_held (need_of part.state) part.state.node
fits_if false part side = fits_by (need_of part.state) part.state.node part.stream side

pub asks_fits : (part : Part) (side : Side)
    → Fits (asks part side) (need_of part.state) part.state.node
unfolding asks
asks_fits part side = fits_if (is_held part) part side

-- A try that is Moved asks by the node's need.
pub no_move_held : (n : Need) (found : Option ℕ) (part : Part)
    → (after_asked (held_by n) found part).0 ≡ Moved → ⊥
no_move_held (need.Stopped stop) found part e = cc
no_move_held _ found part e = cc

moved_if : (held : Bool) (part : Part) (side : Side) (found : Option ℕ)
    → (after_asked (asks_if held part side) found part).0 ≡ Moved
    → asks_if held part side ≡ asks_by (need_of part.state) part.state.node part.stream side
moved_if true part side found e = absurd (no_move_held (need_of part.state) found part e)
moved_if false part side found e = refl

pub moved_asks : (part : Part) (side : Side) (found : Option ℕ) → (after part side found).0 ≡ Moved
    → asks part side ≡ asks_by (need_of part.state) part.state.node part.stream side
unfolding asks after
moved_asks part side found e = moved_if (is_held part) part side found e

-- By the need a try asks for the same, whichever side it names, if no side is picked or the same.
same_take : (one : Option Side) (sides : Sides) (s t : Side) → picked_of one s ≡ picked_of one t
    → looked_at one sides s ≡ looked_at one sides t
same_take (Some only) sides s t e = refl
same_take None sides s t e = let same : s ≡ t = cc in ap (λ u. looked_at None sides u) same

pub same_asks : (n : Need) (name : ℕ) (stream : Option (List ℕ)) (s t : Side)
    → picked_by n s ≡ picked_by n t → asks_by n name stream s ≡ asks_by n name stream t
same_asks need.Own name stream s t e = refl
same_asks (need.Take sides) name stream s t e =
    ap (take_from name) (same_take (one_side sides) sides s t e)
same_asks (need.Post to word) name stream s t e = refl
same_asks (need.Check to) name stream s t e = refl
same_asks need.Input name stream s t e = refl
same_asks (need.Stopped stop) name stream s t e = refl

-- the state of a node after a try
abbrev pub stand_after : Asks → Option ℕ → State → State
stand_after (Nothing outcome) found at = at
stand_after Own found at = step at None
stand_after (Feed fed) found at = step at (Some fed)
stand_after (Post side cell word) found at = step at None
stand_after (Check side cell) None at = step at None
stand_after (Check side cell) (Some word) at = at
stand_after (Take side cell) (Some word) at = step at (Some word)
stand_after (Take side cell) None at = at

stands_asked : (q : Asks) (found : Option ℕ) (part : Part)
    → (after_asked q found part).1.state ≡ stand_after q found part.state
stands_asked (Nothing outcome) found part = refl
stands_asked Own found part = refl
stands_asked (Feed fed) found part = refl
stands_asked (Post side cell word) found part = refl
stands_asked (Check side cell) None part = refl
stands_asked (Check side cell) (Some word) part = refl
stands_asked (Take side cell) None part = refl
stands_asked (Take side cell) (Some word) part = refl

pub stands_after : (part : Part) (side : Side) (found : Option ℕ)
    → (after part side found).1.state ≡ stand_after (asks part side) found part.state
unfolding after
stands_after part side found = stands_asked (asks part side) found part

-- What isn't Moved changes nothing.

still_asked : (q : Asks) (found : Option ℕ) (part : Part)
    → ((after_asked q found part).0 ≡ Moved → ⊥) → (after_asked q found part).1 ≡ part
still_asked (Nothing outcome) found part still = refl
still_asked Own found part still = absurd (still refl)
still_asked (Feed fed) found part still = absurd (still refl)
still_asked (Post side cell word) found part still = absurd (still refl)
still_asked (Check side cell) None part still = absurd (still refl)
still_asked (Check side cell) (Some word) part still = refl
still_asked (Take side cell) None part still = refl
still_asked (Take side cell) (Some word) part still = absurd (still refl)

pub still_after : (part : Part) (side : Side) (found : Option ℕ)
    → ((after part side found).0 ≡ Moved → ⊥) → (after part side found).1 ≡ part
unfolding after
still_after part side found still = still_asked (asks part side) found part still

-- a node keeps its name
name_asked : (q : Asks) (found : Option ℕ) (part : Part)
    → (after_asked q found part).1.state.node ≡ part.state.node
name_asked (Nothing outcome) found part = refl
name_asked Own found part = step_node part.state None
name_asked (Feed fed) found part = step_node part.state (Some fed)
name_asked (Post side cell word) found part = step_node part.state None
name_asked (Check side cell) None part = step_node part.state None
name_asked (Check side cell) (Some word) part = refl
name_asked (Take side cell) None part = refl
name_asked (Take side cell) (Some word) part = step_node part.state (Some word)

pub name_after : (part : Part) (side : Side) (found : Option ℕ)
    → (after part side found).1.state.node ≡ part.state.node
unfolding after
name_after part side found = name_asked (asks part side) found part

-- counts of words
one_counted : (side : Side) (counts : Counts)
    → count_at side (counted side counts) ≡ count_at side counts + 1
one_counted Right counts = refl
one_counted Down counts = refl
one_counted Left counts = refl
one_counted Up counts = refl

else_counted : (side at : Side) (counts : Counts) → (side ≡ at → ⊥)
    → count_at at (counted side counts) ≡ count_at at counts
else_counted Right Right counts apart = absurd (apart refl)
else_counted Right Down counts apart = refl
else_counted Right Left counts apart = refl
else_counted Right Up counts apart = refl
else_counted Down Right counts apart = refl
else_counted Down Down counts apart = absurd (apart refl)
else_counted Down Left counts apart = refl
else_counted Down Up counts apart = refl
else_counted Left Right counts apart = refl
else_counted Left Down counts apart = refl
else_counted Left Left counts apart = absurd (apart refl)
else_counted Left Up counts apart = refl
else_counted Up Right counts apart = refl
else_counted Up Down counts apart = refl
else_counted Up Left counts apart = refl
else_counted Up Up counts apart = absurd (apart refl)

-- one more at a side, if the two numbers are equal exactly when the sides are
count_one : (same : Bool) (side at : Side) (counts : Counts) (word : ℕ) → (same ≡ true → side ≡ at)
    → (same ≡ false → side ≡ at → ⊥) → count_at at (counted side counts) ≡ count_at at counts
    + length (if same then word ∷ [] else [])
count_one true side at counts word yes_ no_ =
    let same : side ≡ at = yes_ refl in
    subst (λ z. count_at z (counted side counts) ≡ count_at z counts + 1) same
    (one_counted side counts)
count_one false side at counts word yes_ no_ =
    else_counted side at counts (no_ refl) ∙ sym (add-zero (count_at at counts))

same_cell : (name side_cell cell : ℕ) (side at : Side) → cell_of name side ≡ Some side_cell
    → cell_of name at ≡ Some cell → side ≡ at → side_cell ≡ cell
same_cell name side_cell cell side at e f same =
    same_Some side_cell cell (sym e ∙ ap (cell_of name) same ∙ f)

same_read : (name side_cell cell : ℕ) (side at : Side) → read_cell name side ≡ Some side_cell
    → read_cell name at ≡ Some cell → side ≡ at → side_cell ≡ cell
same_read name side_cell cell side at e f same =
    same_Some side_cell cell (sym e ∙ ap (read_cell name) same ∙ f)

written_asked : (q : Asks) (found : Option ℕ) (part : Part) (at : Side) (cell : ℕ)
    → Fits q (need_of part.state) part.state.node → cell_of part.state.node at ≡ Some cell
    → count_at at (after_asked q found part).1.written ≡ count_at at part.written
    + length (posted_by cell q)
written_asked (Nothing outcome) found part at cell fits here = sym (add-zero _)
written_asked Own found part at cell fits here = sym (add-zero _)
written_asked (Feed fed) found part at cell fits here = sym (add-zero _)
written_asked (Post side to word) found part at cell fits here =
    count_one (to == cell) side at part.written word
    (λ e. (one_writer part.state.node part.state.node cell side at
    (fits.0 ∙ ap Some (eqb-true to cell e)) here).1)
    (λ e same. eqb-false to cell e (same_cell part.state.node to cell side at fits.0 here same))
written_asked (Check side to) None part at cell fits here = sym (add-zero _)
written_asked (Check side to) (Some word) part at cell fits here = sym (add-zero _)
written_asked (Take side from) None part at cell fits here = sym (add-zero _)
written_asked (Take side from) (Some word) part at cell fits here = sym (add-zero _)

-- a node's number of words written at a cell grows by what its try posts there
pub written_after : (part : Part) (side : Side) (found : Option ℕ) (at : Side) (cell : ℕ)
    → cell_of part.state.node at ≡ Some cell → count_at at (after part side found).1.written
    ≡ count_at at part.written + length (posted_by cell (asks part side))
unfolding after
written_after part side found at cell here =
    written_asked (asks part side) found part at cell (asks_fits part side) here

read_asked : (q : Asks) (found : Option ℕ) (part : Part) (at : Side) (cell : ℕ)
    → IsNodeName part.state.node → Fits q (need_of part.state) part.state.node
    → read_cell part.state.node at ≡ Some cell → count_at at (after_asked q found part).1.read
    ≡ count_at at part.read + length (taken_by cell q found)
read_asked (Nothing outcome) found part at cell named fits here = sym (add-zero _)
read_asked Own found part at cell named fits here = sym (add-zero _)
read_asked (Feed fed) found part at cell named fits here = sym (add-zero _)
read_asked (Post side to word) found part at cell named fits here = sym (add-zero _)
read_asked (Check side to) None part at cell named fits here = sym (add-zero _)
read_asked (Check side to) (Some word) part at cell named fits here = sym (add-zero _)
read_asked (Take side from) None part at cell named fits here = sym (add-zero _)
read_asked (Take side from) (Some word) part at cell named fits here =
    count_one (from == cell) side at part.read word
    (λ e. (one_reader part.state.node part.state.node cell side at named named
    (fits.1 ∙ ap Some (eqb-true from cell e)) here).1)
    (λ e same. eqb-false from cell e (same_read part.state.node from cell side at fits.1 here same))

-- and the number of words read by what it takes
pub read_after : (part : Part) (side : Side) (found : Option ℕ) (at : Side) (cell : ℕ)
    → IsNodeName part.state.node → read_cell part.state.node at ≡ Some cell
    → count_at at (after part side found).1.read ≡ count_at at part.read
    + length (taken_by cell (asks part side) found)
unfolding after
read_after part side found at cell named here =
    read_asked (asks part side) found part at cell named (asks_fits part side) here

-- An outcome other than Moved posts nothing, takes nothing, and leaves the node unchanged.
pub record Quiet (q : Asks) (found : Option ℕ) : Type 0 where
  pub posts : (cell : ℕ) → posted_by cell q ≡ []
  pub takes : (cell : ℕ) → taken_by cell q found ≡ []
  pub stays : (at : State) → stand_after q found at ≡ at
  pub feeds : input_by q ≡ []

quiet_asked : (q : Asks) (found : Option ℕ) (part : Part)
    → ((after_asked q found part).0 ≡ Moved → ⊥) → Quiet q found
quiet_asked (Nothing outcome) found part still =
    record { posts = λ cell. refl; takes = λ cell. refl; stays = λ at. refl; feeds = refl }
quiet_asked Own found part still = absurd (still refl)
quiet_asked (Feed fed) found part still = absurd (still refl)
quiet_asked (Post side cell word) found part still = absurd (still refl)
quiet_asked (Check side cell) None part still = absurd (still refl)
quiet_asked (Check side cell) (Some word) part still =
    record { posts = λ cell. refl; takes = λ cell. refl; stays = λ at. refl; feeds = refl }
quiet_asked (Take side cell) None part still =
    record { posts = λ cell. refl; takes = λ cell. refl; stays = λ at. refl; feeds = refl }
quiet_asked (Take side cell) (Some word) part still = absurd (still refl)

pub quiet_after : (part : Part) (side : Side) (found : Option ℕ)
    → ((after part side found).0 ≡ Moved → ⊥) → Quiet (asks part side) found
unfolding after
quiet_after part side found still = quiet_asked (asks part side) found part still

-- at most one word more is written, and then the steps are one more
one_more : (side at : Side) (counts : Counts)
    → count_at at (counted side counts) ≤ count_at at counts + 1
one_more side at counts =
    let is : count_at at (counted side counts) ≡ count_at at counts
    + length {A = ℕ} (if side_bit side == side_bit at then 0 ∷ [] else []) =
    count_one (side_bit side == side_bit at) side at counts 0
    (λ e. same_bit side at (eqb-true _ _ e)) (λ e same. eqb-false _ _ e (ap side_bit same)) in
    few (side_bit side == side_bit at) _ _ is
  where
    few : (b : Bool) (m n : ℕ) → m ≡ n + length {A = ℕ} (if b then 0 ∷ [] else []) → m ≤ n + 1
    few true m n e = omega arith
    few false m n e = omega arith

steps_asked : (q : Asks) (found : Option ℕ) (part : Part) (at : Side)
    → count_at at part.written ≤ part.state.steps
    → count_at at (after_asked q found part).1.written ≤ (after_asked q found part).1.state.steps
steps_asked (Nothing outcome) found part at h = h
steps_asked Own found part at h = omega (arith, step_steps part.state None)
steps_asked (Feed fed) found part at h = omega (arith, step_steps part.state (Some fed))
steps_asked (Post side cell word) found part at h =
    omega (arith, step_steps part.state None, one_more side at part.written)
steps_asked (Check side cell) None part at h = omega (arith, step_steps part.state None)
steps_asked (Check side cell) (Some word) part at h = h
steps_asked (Take side cell) None part at h = h
steps_asked (Take side cell) (Some word) part at h =
    omega (arith, step_steps part.state (Some word))

pub steps_after : (part : Part) (side : Side) (found : Option ℕ) (at : Side)
    → count_at at part.written ≤ part.state.steps
    → count_at at (after part side found).1.written ≤ (after part side found).1.state.steps
unfolding after
steps_after part side found at h = steps_asked (asks part side) found part at h

-- what a try that is Moved found: nothing at a check, a word at a take
abbrev pub Passes : Asks → Option ℕ → Type 0
Passes (Check side cell) found = found ≡ None
Passes (Take side cell) found = (word : ℕ) × (found ≡ Some word)
Passes (Nothing outcome) found = ⊥
Passes _ found = Unit {0}

passed_asked : (q : Asks) (found : Option ℕ) (part : Part)
    → Fits q (need_of part.state) part.state.node → (after_asked q found part).0 ≡ Moved
    → Passes q found
passed_asked (Nothing outcome) found part fits e = fits e
passed_asked Own found part fits e = tt
passed_asked (Feed fed) found part fits e = tt
passed_asked (Post side cell word) found part fits e = tt
passed_asked (Check side cell) None part fits e = refl
passed_asked (Check side cell) (Some word) part fits e = cc
passed_asked (Take side cell) None part fits e = cc
passed_asked (Take side cell) (Some word) part fits e = (word, refl)

pub passed_after : (part : Part) (side : Side) (found : Option ℕ)
    → (after part side found).0 ≡ Moved → Passes (asks part side) found
unfolding after
passed_after part side found e = passed_asked (asks part side) found part (asks_fits part side) e

-- a try that is Moved adds one step
counts_asked : (q : Asks) (found : Option ℕ) (part : Part)
    → Fits q (need_of part.state) part.state.node → (after_asked q found part).0 ≡ Moved
    → (after_asked q found part).1.state.steps ≡ part.state.steps + 1
counts_asked (Nothing outcome) found part fits e = absurd (fits e)
counts_asked Own found part fits e = step_steps part.state None
counts_asked (Feed fed) found part fits e = step_steps part.state (Some fed)
counts_asked (Post side cell word) found part fits e = step_steps part.state None
counts_asked (Check side cell) None part fits e = step_steps part.state None
counts_asked (Check side cell) (Some word) part fits e = cc
counts_asked (Take side cell) None part fits e = cc
counts_asked (Take side cell) (Some word) part fits e = step_steps part.state (Some word)

pub counts_after : (part : Part) (side : Side) (found : Option ℕ)
    → (after part side found).0 ≡ Moved
    → (after part side found).1.state.steps ≡ part.state.steps + 1
unfolding after
counts_after part side found e = counts_asked (asks part side) found part (asks_fits part side) e

abbrev pub stream_by : Asks → Option (List ℕ) → Option (List ℕ)
stream_by (Feed word) stream = rest_of stream
stream_by _ stream = stream

-- a try is fed the next word of the stream
abbrev pub Feeds : Asks → Option (List ℕ) → Type 0
Feeds q stream = words_left stream ≡ input_by q ++ words_left (stream_by q stream)

feeds_take : (name : ℕ) (side : Side) (at : Option ℕ) (stream : Option (List ℕ))
    → Feeds (at_cell (Take side) at) stream
feeds_take name side (Some cell) stream = refl
feeds_take name side None stream = refl

feeds_from : (name : ℕ) (at : Option Side) (stream : Option (List ℕ))
    → Feeds (take_from name at) stream
feeds_from name (Some side) stream = feeds_take name side (read_cell name side) stream
feeds_from name None stream = refl

feeds_post : (side : Side) (word : ℕ) (at : Option ℕ) (stream : Option (List ℕ))
    → Feeds (at_cell (λ it. Post side it word) at) stream
feeds_post side word (Some cell) stream = refl
feeds_post side word None stream = refl

feeds_check : (side : Side) (at : Option ℕ) (stream : Option (List ℕ))
    → Feeds (at_cell (Check side) at) stream
feeds_check side (Some cell) stream = refl
feeds_check side None stream = refl

feeds_input : (stream : Option (List ℕ)) → Feeds (input_of stream) stream
feeds_input (Some (word ∷ rest)) = refl
feeds_input (Some []) = refl
feeds_input None = refl

pub feeds_by : (n : Need) (name : ℕ) (stream : Option (List ℕ)) (side : Side)
    → Feeds (asks_by n name stream side) stream
feeds_by need.Own name stream side = refl
feeds_by (need.Take sides) name stream side =
    feeds_from name (looked_at (one_side sides) sides side) stream
feeds_by (need.Post to word) name stream side = feeds_post to word (cell_of name to) stream
feeds_by (need.Check to) name stream side = feeds_check to (cell_of name to) stream
feeds_by need.Input name stream side = feeds_input stream
feeds_by (need.Stopped stop) name stream side = refl

feeds_held : (n : Need) (stream : Option (List ℕ)) → Feeds (held_by n) stream
feeds_held (need.Stopped stop) stream = refl
feeds_held _ stream = refl

feeds_if : (held : Bool) (part : Part) (side : Side) → Feeds (asks_if held part side) part.stream
feeds_if true part side = feeds_held (need_of part.state) part.stream
feeds_if false part side = feeds_by (need_of part.state) part.state.node part.stream side

stream_asked : (q : Asks) (found : Option ℕ) (part : Part)
    → (after_asked q found part).1.stream ≡ stream_by q part.stream
stream_asked (Nothing outcome) found part = refl
stream_asked Own found part = refl
stream_asked (Feed fed) found part = refl
stream_asked (Post side cell word) found part = refl
stream_asked (Check side cell) None part = refl
stream_asked (Check side cell) (Some word) part = refl
stream_asked (Take side cell) None part = refl
stream_asked (Take side cell) (Some word) part = refl

opened_asked : (q : Asks) (found : Option ℕ) (part : Part)
    → (after_asked q found part).1.opened ≡ part.opened
opened_asked (Nothing outcome) found part = refl
opened_asked Own found part = refl
opened_asked (Feed fed) found part = refl
opened_asked (Post side cell word) found part = refl
opened_asked (Check side cell) None part = refl
opened_asked (Check side cell) (Some word) part = refl
opened_asked (Take side cell) None part = refl
opened_asked (Take side cell) (Some word) part = refl

pub opened_after : (part : Part) (side : Side) (found : Option ℕ)
    → (after part side found).1.opened ≡ part.opened
unfolding after
opened_after part side found = opened_asked (asks part side) found part

pub feeds_after : (part : Part) (side : Side) (found : Option ℕ) → words_left part.stream
    ≡ input_by (asks part side) ++ words_left (after part side found).1.stream
unfolding asks after
feeds_after part side found =
    feeds_if (is_held part) part side ∙ ap (λ s. input_by (asks part side) ++ words_left s)
    (sym (stream_asked (asks part side) found part))
