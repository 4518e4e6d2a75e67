-- What a node did in a run determines its state, and the words of its cells.
use Rattle.std.proofs.Common.{◌≡◌, ℕ, ◌==◌, Bool, true, false, List, [], ◌∷◌, ◌++◌, ◌⊎◌, inl, inr, map, flat_map, Option, Some, None, refl, sym, ap, ap₂, ◌∙◌, subst}
use Rattle.std.specs.Prelude.{if◌then◌else◌, ◌/◌, ◌%◌}
use Rattle.std.proofs.lemmas.Bool.{false≢true}
use Rattle.std.proofs.lemmas.List.{map-append}
use Rattle.std.proofs.lemmas.Option.{same_Some, none-some}
use Rattle.ga_place.specs.Side.{one_side, side_bit, bits_of}
use Rattle.ga_place.specs.declared.side.Side.{Side}
use Rattle.ga_place.specs.declared.side.Sides.{Sides}
use Rattle.ga_node.specs.State.{State}
use Rattle.ga_node.specs.Need.{need_of, wants}
use Rattle.ga_node.specs.Slot.{moved, step}
use Rattle.ga_node.specs.declared.need.Need.{Need}
use Rattle.ga_node.specs.declared.need.Need.TheVariants as need
use Rattle.ga_node.specs.declared.need.Stop.TheVariants.{Counted}
use Rattle.ga_place.specs.Cell.{read_cell}
use Rattle.ga_chip.specs.Part.{Part, Asks, asks_by, at_cell, input_of, looked_at, rest_of, take_from}
use Rattle.ga_chip.specs.Part as chip
use Rattle.ga_chip.specs.Chip.{Chip, part_of}
use Rattle.ga_chip.specs.Run.{words_left, words_fed, input_by, input_words, Event, Move, happened, ran, move_in, moves, moves_of}
use Rattle.ga_chip.specs.Legal.{IsLegal}
use Rattle.ga_node.proofs.Rows.{is_running}
use Rattle.ga_chip.proofs.Parts.{Fits, Passes, stand_after}
use Rattle.ga_chip.proofs.Events.{replay}
use Rattle.ga_chip.proofs.Kept.{legal_kept}
use Rattle.ga_chip.proofs.Streams.{streams_go}
use Rattle.ga_chip.proofs.Runs.{moves_of-append, Stands, stand_event}
use Rattle.ga_chip.proofs.Moments.{Makes, makes_event, one_at_most}
use Rattle.ga_boot.specs.inner.Local.{Local, given, lived, Answers, Lives, fed_by, fed, local_by, local_of, history}
use Rattle.ga_boot.proofs.Bare.{bare, step_bare, wants_bare}
use Rattle.ga_boot.proofs.Steps.{lived-append}

-- a need that is no stop is what the place wants
wants_by : (full : Bool) (n w : Need) → (if full then need.Stopped Counted else w) ≡ n
    → is_running n ≡ true → w ≡ n
wants_by true n w e running = absurd (false≢true (ap is_running e ∙ running))
wants_by false n w e running = e

pub wanted : (state : State) (n : Need) → need_of state ≡ n → is_running n ≡ true
    → wants (bare state) ≡ n
unfolding need_of
wanted state n e running = wants_bare state ∙ wants_by _ n (wants state) e running

-- the side that a take asks for is the one that it looks at
take_side : (side t : Side) (cell : ℕ) (at : Option ℕ)
    → chip.Take side cell ≡ at_cell (chip.Take t) at → t ≡ side
take_side side t cell (Some c) e = cc
take_side side t cell None e = cc

pub from_side : (name cell : ℕ) (side : Side) (o : Option Side)
    → chip.Take side cell ≡ take_from name o → o ≡ Some side
from_side name cell side (Some t) e = ap Some (take_side side t cell (read_cell name t) e)
from_side name cell side None e = cc

looks_none : (sides : Sides) (t side : Side) (b : Bool) → (bits_of sides / side_bit t % 2 == 1) ≡ b
    → (if b then Some t else None) ≡ Some side → looked_at None sides side ≡ Some side
looks_none sides t side true f e =
    let same : t ≡ side = same_Some t side e in
    subst (λ z. looked_at None sides z ≡ Some z) same (ap (λ b. if b then Some t else None) f)
looks_none sides t side false f e = absurd (none-some side e)

looks_again : (one : Option Side) (sides : Sides) (t side : Side)
    → looked_at one sides t ≡ Some side → looked_at one sides side ≡ Some side
looks_again (Some only) sides t side e = e
looks_again None sides t side e =
    looks_none sides t side (bits_of sides / side_bit t % 2 == 1) refl e

-- a node that makes a move wants what it needs
need_by : (q : Asks) (found : Option ℕ) (state : State) (name : ℕ) → Fits q (need_of state) name
    → Passes q found → need_of state ≡ wants (bare state)
need_by (chip.Nothing o) found state name fits passed = absurd passed
need_by chip.Own found state name fits passed = fits ∙ sym (wanted state need.Own fits refl)
need_by (chip.Feed word) found state name fits passed =
    fits ∙ sym (wanted state need.Input fits refl)
need_by (chip.Post at cell word) found state name fits passed =
    fits.1 ∙ sym (wanted state (need.Post at word) fits.1 refl)
need_by (chip.Check at cell) found state name fits passed =
    fits.1 ∙ sym (wanted state (need.Check at) fits.1 refl)
need_by (chip.Take at cell) found state name fits passed =
    fits.2 ∙ sym (wanted state (need.Take fits.0) fits.2 refl)

pub need_wanted : (chip : Chip) (name : ℕ) (m : Move) (a : Makes chip name m)
    → need_of a.part.state ≡ wants (bare a.part.state)
need_wanted chip name m a = need_by m.asked m.found a.part.state a.part.state.node a.fits a.passed

-- a move answers the need of its node
answers_by : (q : Asks) (found : Option ℕ) (state : State) (stream : Option (List ℕ)) (side : Side)
    → Fits q (need_of state) state.node → Passes q found
    → q ≡ asks_by (need_of state) state.node stream side
    → Answers (local_by q found) (wants (bare state))
answers_by (chip.Nothing o) found state stream side fits passed e = absurd passed
answers_by chip.Own found state stream side fits passed e = wanted state need.Own fits refl
answers_by (chip.Feed word) found state stream side fits passed e =
    wanted state need.Input fits refl
answers_by (chip.Post at cell word) found state stream side fits passed e =
    wanted state (need.Post at word) fits.1 refl
answers_by (chip.Check at cell) found state stream side fits passed e =
    wanted state (need.Check at) fits.1 refl
answers_by (chip.Take at cell) None state stream side fits passed e =
    absurd (none-some passed.0 passed.1)
answers_by (chip.Take at cell) (Some word) state stream side fits passed e = (
  fits.0,
  wanted state (need.Take fits.0) fits.2 refl,
  looks_again (one_side fits.0) fits.0 side at
      (from_side state.node cell at _ (e ∙ ap (λ n. asks_by n state.node stream side) fits.2)),
)

pub answers : (chip : Chip) (name : ℕ) (m : Move) (a : Makes chip name m)
    → Answers (local_of m) (wants (bare a.part.state))
answers chip name m a =
    answers_by m.asked m.found a.part.state a.part.stream a.side a.fits a.passed a.asked

-- the node's state after it
stood_by : (q : Asks) (found : Option ℕ) (at : State) → Passes q found
    → stand_after q found at ≡ step at (given (local_by q found))
stood_by (chip.Nothing o) found at passed = absurd passed
stood_by chip.Own found at passed = refl
stood_by (chip.Feed word) found at passed = refl
stood_by (chip.Post side cell word) found at passed = refl
stood_by (chip.Check side cell) None at passed = refl
stood_by (chip.Check side cell) (Some word) at passed = cc
stood_by (chip.Take side cell) None at passed = absurd (none-some passed.0 passed.1)
stood_by (chip.Take side cell) (Some word) at passed = refl

-- The state of a node after what it did, by its state before.
pub record Stood (after : Chip) (name : ℕ) (part : Part) (done : List Local) : Type 0 where
  pub now : Part
  pub there : part_of after name ≡ Some now
  pub state : bare now.state ≡ lived (bare part.state) done
  pub lives : Lives (bare part.state) done

pub lives-append : (state : State) (ms more : List Local) → Lives state ms
    → Lives (lived state ms) more → Lives state (ms ++ more)
lives-append state [] more g h = h
lives-append state (m ∷ ms) more g h = (g.0, lives-append (moved state (given m)) ms more g.1 h)

stood_both : (middle end : Chip) (name : ℕ) (part : Part) (done more : List Local)
    (first : Stood middle name part done) → Stood end name first.now more
    → Stood end name part (done ++ more)
stood_both middle end name part done more first rest = record {
  now = rest.now;
  there = rest.there;
  state = rest.state ∙ ap (λ s. lived s more) first.state
      ∙ sym (lived-append (bare part.state) done more);
  lives = lives-append (bare part.state) done more first.lives
      (subst (λ s. Lives s more) first.state rest.lives);
}

-- one event
stood_event : (chip : Chip) (event : Event) (name : ℕ) (part : Part) → IsLegal chip
    → part_of chip name ≡ Some part
    → Stood (happened chip event) name part (map local_of (moves_of name (move_in chip event)))
stood_event chip event name part legal there = record {
  now = s.now;
  there = s.there;
  state = state_is.0;
  lives = state_is.1;
}
  where
    s : Stands chip (happened chip event) name part (move_in chip event)
    s = stand_event chip event name part legal there

    one_made : (m : Move) → moves_of name (move_in chip event) ≡ m ∷ []
        → (bare s.now.state ≡ lived (bare part.state) (local_of m ∷ []))
        × Lives (bare part.state) (local_of m ∷ [])
    one_made m e =
        let a = makes_event chip event name m e in
        let is : a.part ≡ part = same_Some a.part part (sym a.there ∙ there) in
        let stands : s.now.state ≡ stand_after m.asked m.found part.state =
        s.stands ∙ ap (replay part.state) e in (
          ap bare stands ∙ ap bare (stood_by m.asked m.found part.state a.passed)
              ∙ step_bare part.state (given (local_of m)),
          (subst (λ p. Answers (local_of m) (wants (bare p.state))) is (answers chip name m a), tt),
        )

    by : (moves_of name (move_in chip event) ≡ [])
        ⊎ ((m : Move) × (moves_of name (move_in chip event) ≡ m ∷ [])) → (bare s.now.state
        ≡ lived (bare part.state) (map local_of (moves_of name (move_in chip event))))
        × Lives (bare part.state) (map local_of (moves_of name (move_in chip event)))
    by (inl e) =
        subst (λ l. (bare s.now.state ≡ lived (bare part.state) (map local_of l))
        × Lives (bare part.state) (map local_of l)) (sym e)
        (ap bare (s.stands ∙ ap (replay part.state) e), tt)
    by (inr (m, e)) =
        subst (λ l. (bare s.now.state ≡ lived (bare part.state) (map local_of l))
        × Lives (bare part.state) (map local_of l)) (sym e) (one_made m e)

    state_is : (bare s.now.state
        ≡ lived (bare part.state) (map local_of (moves_of name (move_in chip event))))
        × Lives (bare part.state) (map local_of (moves_of name (move_in chip event)))
    state_is = by (one_at_most chip event name)

-- HISTORY DETERMINES the state of a node after a run
pub stood_ran : (chip : Chip) (events : List Event) (name : ℕ) (part : Part) → IsLegal chip
    → part_of chip name ≡ Some part → Stood (ran chip events) name part (history chip events name)
stood_ran chip [] name part legal there =
    record { now = part; there = there; state = refl; lives = tt }
stood_ran chip (event ∷ events) name part legal there =
    let one = stood_event chip event name part legal there in
    let rest =
    stood_ran (happened chip event) events name one.now (legal_kept chip event legal) one.there in
    subst (Stood (ran chip (event ∷ events)) name part)
    (sym (map-append local_of (moves_of name (move_in chip event))
    (moves_of name (moves (happened chip event) events))) ∙ ap (map local_of)
    (sym (moves_of-append name (move_in chip event) (moves (happened chip event) events))))
    (stood_both (happened chip event) (ran (happened chip event) events) name part (map local_of
    (moves_of name (move_in chip event))) (history (happened chip event) events name) one rest)

-- THE WORDS OF ITS STREAM that a node took
fed_is : (q : Asks) (found : Option ℕ) → fed_by (local_by q found) ≡ input_by q
fed_is (chip.Nothing o) found = refl
fed_is chip.Own found = refl
fed_is (chip.Feed word) found = refl
fed_is (chip.Post side cell word) found = refl
fed_is (chip.Check side cell) found = refl
fed_is (chip.Take side cell) None = refl
fed_is (chip.Take side cell) (Some word) = refl

fed_all : (ms : List Move) → fed (map local_of ms) ≡ flat_map (λ move. input_by move.asked) ms
fed_all [] = refl
fed_all (m ∷ ms) = ap₂ (λ a b. a ++ b) (fed_is m.asked m.found) (fed_all ms)

pub fed_history : (chip : Chip) (events : List Event) (name : ℕ)
    → fed (history chip events name) ≡ input_words chip events name
fed_history chip events name = fed_all (moves_of name (moves chip events))

-- with those that are left, they are those that it had and was fed
pub stream_ran : (chip : Chip) (events : List Event) (name : ℕ) (part now : Part) → IsLegal chip
    → part_of chip name ≡ Some part → part_of (ran chip events) name ≡ Some now
    → words_left part.stream ++ words_fed chip events name ≡ fed (history chip events name)
    ++ words_left now.stream
stream_ran chip events name part now legal there there' =
    streams_go chip events name part now legal there there'
    ∙ ap (λ l. l ++ words_left now.stream) (sym (fed_history chip events name))
