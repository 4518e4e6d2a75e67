-- A try is held if and only if its node is at a breakpoint.
use Rattle.std.proofs.Common.{◌≡◌, ℕ, ◌%◌, ◌^◌, ◌==◌, Bool, true, false, List, [], ◌∷◌, get_or, slice_get, Option, Some, None, refl, sym, ap, ◌∙◌, subst}
use Rattle.std.specs.Prelude.{◌↔◌, ◌&&◌, not}
use Rattle.std.proofs.lemmas.Bool.{eqb-false, eqb-true, false≢true}
use Rattle.std.proofs.lemmas.Option.{none-some, same_Some}
use Rattle.ga_place.specs.Cell.{index_of}
use Rattle.ga_place.specs.declared.side.Side.{Side}
use Rattle.ga_node.specs.Need.{need_of, stop_of}
use Rattle.ga_node.specs.State.{is_fetch}
use Rattle.ga_node.specs.declared.need.Need.{Need}
use Rattle.ga_node.specs.declared.need.Need.TheVariants as need
use Rattle.ga_node.specs.declared.place.Place.{Place}
use Rattle.ga_node.specs.declared.place.Place.TheVariants as place
use Rattle.ga_chip.specs.declared.outcome.Try as asked
use Rattle.ga_chip.specs.declared.outcome.Outcome.{Outcome}
use Rattle.ga_chip.specs.declared.outcome.Outcome.TheVariants.{Held, Moved, Stopped, Waits}
use Rattle.ga_chip.specs.declared.error.ChipError.TheVariants.{NotHeld}
use Rattle.ga_chip.specs.Part.{Part, StandsAtBreak, after, asks, asks_if, held_by, is_held}
use Rattle.ga_chip.specs.Chip.{Chip, IsHeld, found_by, part_of, tried, unless_held}
use Rattle.ga_chip.specs.Run.{Try, happened, is_hold, ran, tries_of}
use Rattle.ga_chip.proofs.Plain.{held_asks, need_free}
use Rattle.ga_chip.proofs.Lists.{get-set_else}
use Rattle.ga_chip.proofs.Tries.{tried_none, tried_still, tried_there}
use Rattle.ga_chip.proofs.Turns.{happened_try}
use Rattle.ga_chip.proofs.Uses.{held_after, unless}

-- the three tests of a node at a breakpoint
abbrev At : Place → Bool → Bool → Type 0
At at pass set = (at ≡ place.Fetch) × (set ≡ true) × (pass ≡ false)

tests : (at : Place) (pass set : Bool) → is_fetch at && (not pass && set) ≡ true → At at pass set
tests place.Fetch true set e = absurd (false≢true e)
tests place.Fetch false set e = (refl, e, refl)
tests place.Slot0 pass set e = absurd (false≢true e)
tests place.Slot1 pass set e = absurd (false≢true e)
tests place.Slot2 pass set e = absurd (false≢true e)
tests place.Slot3 pass set e = absurd (false≢true e)
tests place.Completion pass set e = absurd (false≢true e)
tests place.Transfer pass set e = absurd (false≢true e)
tests place.Count pass set e = absurd (false≢true e)
tests place.Body pass set e = absurd (false≢true e)

tested : (at : Place) (pass set : Bool) → At at pass set → is_fetch at && (not pass && set) ≡ true
tested at pass set (e, f, g) = rw (e, f, g) refl

held_runs : (n : Need) → is_hold (held_by n) ≡ true → stop_of n ≡ None
held_runs (need.Stopped stop) e = absurd (false≢true e)
held_runs need.Own e = refl
held_runs (need.Take sides) e = refl
held_runs (need.Post to word) e = refl
held_runs (need.Check to) e = refl
held_runs need.Input e = refl

stands : (part : Part) (side : Side) → is_hold (asks part side) ≡ true → StandsAtBreak part
unfolding asks
stands part side e = by (is_held part) refl e
  where
    by : (held : Bool) → is_held part ≡ held → is_hold (asks_if held part side) ≡ true
        → StandsAtBreak part
    by true at h =
        let seen =
        tests part.state.place part.pass (get_or part.breaks (part.state.p % 2 ^ 9) false) at in
        record {
          runs = held_runs (need_of part.state) h;
          fetches = seen.0;
          breaks = seen.1;
          unpassed = seen.2;
        }
    by false at h =
        absurd
        (false≢true (sym (need_free (need_of part.state) part.state.node part.stream side) ∙ h))

holds : (part : Part) (side : Side) → StandsAtBreak part → is_hold (asks part side) ≡ true
holds part side at =
    ap is_hold (held_asks part side (need_of part.state) (tested part.state.place part.pass
    (get_or part.breaks (part.state.p % 2 ^ 9) false) (at.fetches, at.breaks, at.unpassed)) refl
    (λ stop e. none-some stop (sym at.runs ∙ ap stop_of e)))

-- the answer of a pass determines whether an outcome is Held
outcome_held : (outcome : Outcome) → unless_held outcome ≡ None → outcome ≡ Held
outcome_held Moved e = absurd (none-some NotHeld (sym e))
outcome_held Waits e = absurd (none-some NotHeld (sym e))
outcome_held Held e = refl
outcome_held Stopped e = absurd (none-some NotHeld (sym e))

unless_true : (b : Bool) → unless b ≡ None → b ≡ true
unless_true true e = refl
unless_true false e = absurd (none-some NotHeld (sym e))

there_held : (part : Part) (side : Side) (found : Option ℕ)
    → ((after part side found).0 ≡ Held) ↔ StandsAtBreak part
there_held part side found = (
  λ e. stands part side (unless_true _ (sym (held_after part side found) ∙ ap unless_held e)),
  λ at. outcome_held _ (held_after part side found ∙ ap unless (holds part side at)),
)

pub exactly : (chip : Chip) (name : ℕ) (side : Side)
    → ((tried chip name side).0 ≡ Held) ↔ IsHeld chip name
exactly chip name side = by (part_of chip name) refl
  where
    by : (o : Option Part) → part_of chip name ≡ o
        → ((tried chip name side).0 ≡ Held) ↔ IsHeld chip name
    by None e = (
      λ h. let waits : Waits ≡ Held = sym (ap (λ r. r.0) (tried_none chip name side e)) ∙ h in cc,
      λ (part, there, at). absurd (none-some part (sym e ∙ there)),
    )
    by (Some part) e =
        let is = ap (λ r. r.0) (tried_there chip name side part e) in
        let here = there_held part side (found_by (asks part side) chip.cells) in (
          λ h. (part, e, here.0 (sym is ∙ h)),
          λ (other, there, at). is
              ∙ here.1 (subst StandsAtBreak (same_Some other part (sym there ∙ e)) at),
        )

-- what a try of some node leaves of a node that is held
held_after_try : (chip : Chip) (other name : ℕ) (side : Side) → IsHeld chip name
    → part_of (tried chip other side).1 name ≡ part_of chip name
held_after_try chip other name side held = by (index_of other == index_of name) refl
  where
    by : (b : Bool) → (index_of other == index_of name) ≡ b
        → part_of (tried chip other side).1 name ≡ part_of chip name
    by true same =
        let at : index_of other ≡ index_of name = eqb-true (index_of other) (index_of name) same in
        let stays : (tried chip other side).0 ≡ Held =
        (exactly chip other side).1 (held.0, ap (slice_get chip.parts) at ∙ held.1, held.2) in
        ap (λ c. part_of c name)
        (tried_still chip other side (λ moves. let is : Held ≡ Moved = sym stays ∙ moves in cc))
    by false apart = elsewhere (part_of chip other) refl
      where
        elsewhere : (o : Option Part) → part_of chip other ≡ o
            → part_of (tried chip other side).1 name ≡ part_of chip name
        elsewhere None e = ap (λ r. part_of r.1 name) (tried_none chip other side e)
        elsewhere (Some part) e =
            ap (λ r. part_of r.1 name) (tried_there chip other side part e)
            ∙ get-set_else chip.parts (index_of other) (index_of name) _
            (eqb-false (index_of other) (index_of name) apart)

-- a node that is held stays as it is while any nodes are tried
pub held_stays : (chip : Chip) (tries : List asked.Try) (name : ℕ) → IsHeld chip name
    → part_of (ran chip (tries_of tries)) name ≡ part_of chip name
held_stays chip [] name held = refl
held_stays chip (one ∷ tries) name held =
    let next : Chip = happened chip (Try one.node one.side) in
    let first : part_of next name ≡ part_of chip name = ap (λ c. part_of c name)
    (happened_try chip one.node one.side) ∙ held_after_try chip one.node name one.side held in
    held_stays next tries name (held.0, first ∙ held.1, held.2) ∙ first
