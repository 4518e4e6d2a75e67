-- A try of a node that isn't held, by the node's need.
use Rattle.std.proofs.Common.{◌≡◌, ℕ, zero, suc, ◌%◌, ◌^◌, Bool, true, false, List, [], ◌∷◌, replicate, get_or, Option, Some, None, refl, sym, ap, ap₂, ◌∙◌}
use Rattle.std.proofs.lemmas.Bool.{false≢true}
use Rattle.std.specs.Prelude.{◌&&◌, ◌||◌, not, if◌then◌else◌}
use Rattle.ga_place.specs.declared.side.Side.{Side}
use Rattle.ga_node.specs.State.{State, is_fetch}
use Rattle.ga_node.specs.declared.place.Place.{Place}
use Rattle.ga_node.specs.Need.{is_own, need_of}
use Rattle.ga_node.specs.Slot.{step_if_own}
use Rattle.ga_place.specs.Cell.{cell_of, read_cell}
use Rattle.ga_place.specs.Side.{one_side}
use Rattle.ga_node.specs.declared.need.Need.TheVariants as need
use Rattle.ga_node.specs.declared.need.Need.{Need}
use Rattle.ga_node.specs.declared.need.Stop.{Stop}
use Rattle.ga_chip.specs.declared.outcome.Outcome.{Outcome}
use Rattle.ga_chip.specs.declared.outcome.Outcome.TheVariants.{Held}
use Rattle.ga_chip.specs.Part.{Part, Asks, Nothing, Own, Take, Post, Check, after, after_asked, asks, asks_by, asks_if, at_cell, held_by, input_of, is_held, looked_at, stepped, take_from}
use Rattle.ga_chip.specs.Run.{is_hold}
use Rattle.ga_node.proofs.OwnSteps.{own_is, own_step}
use Rattle.ga_chip.proofs.Within.{own_still}
use Rattle.ga_chip.specs.Chip.{found_by, cells_after}

-- if nothing is set, nothing is held and no pass ends
pub none_set : (n at : ℕ) → get_or (replicate n false) at false ≡ false
none_set zero at = refl
none_set (suc n) zero = refl
none_set (suc n) (suc at) = none_set n at

pub unset_free : (fetch pass : Bool) (breaks : List Bool) (at : ℕ) → breaks ≡ replicate 512 false
    → fetch && (not pass && get_or breaks at false) ≡ false
unset_free fetch pass breaks at e =
    never fetch pass (get_or breaks at false) (ap (λ l. get_or l at false) e ∙ none_set 512 at)
  where
    never : (f p b : Bool) → b ≡ false → f && (not p && b) ≡ false
    never true true b none = refl
    never true false b none = none
    never false p b none = refl

-- a step of the node's own that isn't a fetch is made
pub behind_fetch_made : (may_fetch made : Bool) (place : Place) (n : Need)
    → made ≡ ((not (is_fetch place) || may_fetch) && is_own n) → n ≡ need.Own
    → is_fetch place ≡ false → made ≡ true
behind_fetch_made may_fetch made place n e own off =
    e ∙ ap₂ (λ fetch m. (not fetch || may_fetch) && is_own m) off own

-- a node that isn't held asks by its need
pub free_asks : (part : Part) (side : Side) (n : Need) → is_held part ≡ false
    → n ≡ need_of part.state → asks part side ≡ asks_by n part.state.node part.stream side
unfolding asks
free_asks part side n free e =
    ap (λ held. asks_if held part side) free
    ∙ ap (λ m. asks_by m part.state.node part.stream side) (sym e)

-- a node that is stopped asks by it, held or not
pub stopped_asks : (part : Part) (side : Side) (n : Need) (stop : Stop) → n ≡ need.Stopped stop
    → n ≡ need_of part.state → asks part side ≡ asks_by n part.state.node part.stream side
unfolding asks
stopped_asks part side n stop is e = by (is_held part)
  where
    by : (held : Bool) → asks_if held part side ≡ asks_by n part.state.node part.stream side
    by true =
        ap held_by (sym e ∙ is) ∙ sym (ap (λ m. asks_by m part.state.node part.stream side) is)
    by false = ap (λ m. asks_by m part.state.node part.stream side) (sym e)

-- any other at a breakpoint is held
pub held_asks : (part : Part) (side : Side) (n : Need) → is_held part ≡ true
    → n ≡ need_of part.state → ((stop : Stop) → n ≡ need.Stopped stop → ⊥)
    → asks part side ≡ Nothing Held
unfolding asks
held_asks part side n held e runs =
    ap (λ h. asks_if h part side) held ∙ ap held_by (sym e) ∙ by n runs
  where
    by : (m : Need) → ((stop : Stop) → m ≡ need.Stopped stop → ⊥) → held_by m ≡ Nothing Held
    by (need.Stopped stop) running = absurd (running stop refl)
    by need.Own running = refl
    by (need.Take sides) running = refl
    by (need.Post to word) running = refl
    by (need.Check to) running = refl
    by need.Input running = refl

-- a node that asks by its need isn't held
takes_free : (side : Side) (cell : Option ℕ) → is_hold (at_cell (Take side) cell) ≡ false
takes_free side (Some cell) = refl
takes_free side None = refl

from_free : (name : ℕ) (at : Option Side) → is_hold (take_from name at) ≡ false
from_free name (Some side) = takes_free side (read_cell name side)
from_free name None = refl

posts_free : (side : Side) (word : ℕ) (cell : Option ℕ)
    → is_hold (at_cell (λ it. Post side it word) cell) ≡ false
posts_free side word (Some cell) = refl
posts_free side word None = refl

checks_free : (side : Side) (cell : Option ℕ) → is_hold (at_cell (Check side) cell) ≡ false
checks_free side (Some cell) = refl
checks_free side None = refl

input_free : (stream : Option (List ℕ)) → is_hold (input_of stream) ≡ false
input_free (Some (word ∷ rest)) = refl
input_free (Some []) = refl
input_free None = refl

pub need_free : (n : Need) (name : ℕ) (stream : Option (List ℕ)) (side : Side)
    → is_hold (asks_by n name stream side) ≡ false
need_free need.Own name stream side = refl
need_free (need.Take sides) name stream side =
    from_free name (looked_at (one_side sides) sides side)
need_free (need.Post to word) name stream side = posts_free to word (cell_of name to)
need_free (need.Check to) name stream side = checks_free to (cell_of name to)
need_free need.Input name stream side = input_free stream
need_free (need.Stopped stop) name stream side = refl

-- a quick step of the node's own: it is no fetch, or nothing is held and there is no pass to end
pub quick_free : (fetch quick pass : Bool) (breaks : List Bool) (at : ℕ) → not fetch || quick ≡ true
    → (quick ≡ true → breaks ≡ replicate 512 false)
    → fetch && (not pass && get_or breaks at false) ≡ false
quick_free false quick pass breaks at e none = refl
quick_free true quick pass breaks at e none = unset_free true pass breaks at (none e)

pub quick_kept : (fetch quick pass : Bool) → not fetch || quick ≡ true
    → (quick ≡ true → pass ≡ false) → pass && not fetch ≡ pass
quick_kept false quick true e none = refl
quick_kept false quick false e none = refl
quick_kept true quick pass e none = ap (λ b. b && false) (none e) ∙ sym (none e)

both : (a b : Bool) → a && b ≡ true → (a ≡ true) × (b ≡ true)
both true b e = (refl, e)
both false b e = absurd (false≢true e)

pub own_asks : (part : Part) (quick : Bool) (side : Side)
    → (not (is_fetch part.state.place) || quick) && is_own (need_of part.state) ≡ true
    → (quick ≡ true → part.breaks ≡ replicate 512 false) → asks part side ≡ Own
own_asks part quick side e none =
    let is = both _ _ e in
    free_asks part side need.Own (quick_free (is_fetch part.state.place) quick part.pass part.breaks
    (part.state.p % 2 ^ 9) is.0 none) (sym (own_is (need_of part.state) is.1))

own_made : (part : Part) (next : State) (own : Bool) → own ≡ is_own (need_of part.state)
    → next ≡ step_if_own (need_of part.state) part.state
    → part.pass && not (is_fetch part.state.place) ≡ part.pass
    → record part { state = next } ≡ (if own then stepped None part else part)
own_made part next true e step_ kept =
    ap₂ (λ s pass. record part { state = s; pass = pass }) (own_step part.state next (sym e) step_)
    (sym kept)
own_made part next false e step_ kept =
    ap (λ s. record part { state = s }) (own_still part.state next (sym e) step_)

pub own_part : (part : Part) (next : State) (own quick : Bool)
    → own ≡ ((not (is_fetch part.state.place) || quick) && is_own (need_of part.state))
    → next ≡ (if not (is_fetch part.state.place) || quick
    then step_if_own (need_of part.state) part.state else part.state)
    → (quick ≡ true → part.pass ≡ false)
    → record part { state = next } ≡ (if own then stepped None part else part)
own_part part next own quick e step_ none =
    by (not (is_fetch part.state.place) || quick) refl e step_
  where
    by : (b : Bool) → (not (is_fetch part.state.place) || quick) ≡ b
        → own ≡ (b && is_own (need_of part.state))
        → next ≡ (if b then step_if_own (need_of part.state) part.state else part.state)
        → record part { state = next } ≡ (if own then stepped None part else part)
    by true is f made =
        own_made part next own f made
        (quick_kept (is_fetch part.state.place) quick part.pass is none)
    by false is f made =
        ap (λ s. record part { state = s }) made
        ∙ ap (λ b. if b then stepped None part else part) (sym f)

-- a try by what it asks for
pub after_by : (part : Part) (side : Side) (cells : List (Option ℕ)) (q : Asks) (r : Outcome × Part)
    → asks part side ≡ q → r ≡ after_asked q (found_by q cells) part
    → r ≡ after part side (found_by (asks part side) cells)
unfolding after
after_by part side cells q r e is = is ∙ ap (λ a. after_asked a (found_by a cells) part) (sym e)

pub cells_by : (part : Part) (side : Side) (cells left : List (Option ℕ)) (q : Asks)
    → asks part side ≡ q → left ≡ cells_after q cells → left ≡ cells_after (asks part side) cells
cells_by part side cells left q e is = is ∙ ap (λ a. cells_after a cells) (sym e)
