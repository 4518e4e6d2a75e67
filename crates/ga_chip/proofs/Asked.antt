-- What a try asks for, from what a call returns.
use Rattle.std.proofs.Common.{◌≡◌, ℕ, ◌/◌, ◌%◌, ◌==◌, Bool, true, false, List, Option, Some, None, refl, sym, ap, ◌∙◌, subst}
use Rattle.std.specs.Prelude.{if◌then◌else◌}
use Rattle.std.proofs.lemmas.Bool.{eqb-true}
use Rattle.std.proofs.lemmas.Option.{same_Some}
use Rattle.ga_place.specs.Cell.{read_cell}
use Rattle.ga_place.specs.Side.{bits_of, is_among, one_side, side_bit}
use Rattle.ga_place.specs.declared.side.Side.{Side}
use Rattle.ga_place.specs.declared.side.Side.TheVariants.{Right, Down, Left, Up}
use Rattle.ga_place.specs.declared.side.Sides.{Sides}
use Rattle.ga_node.specs.Need.{is_check, need_of, takes_at}
use Rattle.ga_node.specs.declared.need.Need.{Need}
use Rattle.ga_node.specs.declared.need.Need.TheVariants as need
use Rattle.ga_chip.specs.declared.outcome.Outcome.{Outcome}
use Rattle.ga_chip.specs.declared.outcome.Outcome.TheVariants.{Moved}
use Rattle.ga_chip.specs.declared.asks.Asks.TheVariants as call
use Rattle.ga_chip.specs.Part.{Part, Asks, Nothing, Own, Feed, Post, Check, Take, after, after_asked, asks, asks_by, at_cell, looked_at, take_from}
use Rattle.ga_chip.specs.Asks.{asked_of, told_as}
use Rattle.ga_chip.specs.Chip.{found_by}
use Rattle.ga_chip.proofs.Parts.{Fits, asks_fits, moved_asks}

-- each case is the definition's, except for a word of the stream
pub told_post : (q : Asks) (side : Side) (cell word : ℕ) → told_as q ≡ call.Post side cell word
    → q ≡ Post side cell word
told_post (Post at it which) side cell word e = cc
told_post (Nothing outcome) side cell word e = cc
told_post Own side cell word e = cc
told_post (Feed fed) side cell word e = cc
told_post (Check at it) side cell word e = cc
told_post (Take at it) side cell word e = cc

pub told_take : (q : Asks) (side : Side) (cell : ℕ) → told_as q ≡ call.Take side cell
    → q ≡ Take side cell
told_take (Take at it) side cell e = cc
told_take (Nothing outcome) side cell e = cc
told_take Own side cell e = cc
told_take (Feed fed) side cell e = cc
told_take (Check at it) side cell e = cc
told_take (Post at it which) side cell e = cc

pub told_check : (q : Asks) (side : Side) (cell : ℕ) → told_as q ≡ call.Check side cell
    → q ≡ Check side cell
told_check (Check at it) side cell e = cc
told_check (Nothing outcome) side cell e = cc
told_check Own side cell e = cc
told_check (Feed fed) side cell e = cc
told_check (Take at it) side cell e = cc
told_check (Post at it which) side cell e = cc

pub told_nothing : (q : Asks) (outcome : Outcome) → told_as q ≡ call.Nothing outcome
    → q ≡ Nothing outcome
told_nothing (Nothing it) outcome e = cc
told_nothing (Check at it) outcome e = cc
told_nothing Own outcome e = cc
told_nothing (Feed fed) outcome e = cc
told_nothing (Take at it) outcome e = cc
told_nothing (Post at it which) outcome e = cc

-- a try of the node's own touches no cell
pub own_finds : (q : Asks) (cells : List (Option ℕ)) → told_as q ≡ call.Own
    → found_by q cells ≡ None
own_finds Own cells e = refl
own_finds (Feed fed) cells e = refl
own_finds (Nothing outcome) cells e = refl
own_finds (Post side cell word) cells e = refl
own_finds (Check side cell) cells e = cc
own_finds (Take side cell) cells e = cc

-- the result of a try that asks for nothing
pub nothing_after : (part : Part) (side : Side) (outcome : Outcome) (found : Option ℕ)
    → asked_of part side ≡ call.Nothing outcome → after part side found ≡ (outcome, part)
unfolding after
nothing_after part side outcome found e =
    ap (λ q. after_asked q found part) (told_nothing (asks part side) outcome e)

-- a try by what it asks for, and by what it finds
pub asked_after : (part : Part) (side : Side) (found : Option ℕ) (q : Asks) (r : Outcome × Part)
    → asks part side ≡ q → r ≡ after_asked q found part → r ≡ after part side found
unfolding after
asked_after part side found q r e is = is ∙ ap (λ a. after_asked a found part) (sym e)

-- A try of the node's own goes by its need.
own_moves : (q : Asks) (part : Part) → told_as q ≡ call.Own → (after_asked q None part).0 ≡ Moved
own_moves Own part e = refl
own_moves (Feed fed) part e = refl
own_moves (Nothing outcome) part e = cc
own_moves (Post side cell word) part e = refl
own_moves (Check side cell) part e = refl
own_moves (Take side cell) part e = cc

pub own_by : (part : Part) (side : Side) (n : Need) → n ≡ need_of part.state
    → asked_of part side ≡ call.Own → asks part side ≡ asks_by n part.state.node part.stream side
unfolding after
own_by part side n e own =
    moved_asks part side None (own_moves (asks part side) part own)
    ∙ ap (λ m. asks_by m part.state.node part.stream side) (sym e)

-- what is known of the node's need by what it asks for
pub post_need : (part : Part) (side to : Side) (cell word : ℕ) → asks part side ≡ Post to cell word
    → need_of part.state ≡ need.Post to word
post_need part side to cell word e =
    (subst (λ q. Fits q (need_of part.state) part.state.node) e (asks_fits part side)).1

pub check_need : (part : Part) (side to : Side) (cell : ℕ) → asks part side ≡ Check to cell
    → is_check (need_of part.state) ≡ true
check_need part side to cell e =
    ap is_check (subst (λ q. Fits q (need_of part.state) part.state.node) e (asks_fits part side)).1

-- the one side in a set is in it
one_among : (sides : Sides) (only : Side) → one_side sides ≡ Some only → is_among only sides ≡ true
one_among sides only e =
    by (bits_of sides == 0x80) (bits_of sides == 0x40) (bits_of sides == 0x20)
    (bits_of sides == 0x10) refl refl refl refl e
  where
    here : (side : Side) (bits : ℕ) → (bits_of sides == bits) ≡ true
        → (bits / side_bit side % 2 == 1) ≡ true → Some side ≡ Some only
        → is_among only sides ≡ true
    here side bits is among same =
        subst (λ s. is_among s sides ≡ true) (same_Some side only same)
        (ap (λ b. b / side_bit side % 2 == 1) (eqb-true (bits_of sides) bits is) ∙ among)

    by : (r d l u : Bool) → (bits_of sides == 0x80) ≡ r → (bits_of sides == 0x40) ≡ d
        → (bits_of sides == 0x20) ≡ l → (bits_of sides == 0x10) ≡ u → (if r then Some Right
        else (if d then Some Down else (if l then Some Left else (if u then Some Up else None))))
        ≡ Some only → is_among only sides ≡ true
    by true d l u e f g h is = here Right 0x80 e refl is
    by false true l u e f g h is = here Down 0x40 f refl is
    by false false true u e f g h is = here Left 0x20 g refl is
    by false false false true e f g h is = here Up 0x10 h refl is
    by false false false false e f g h is = cc

-- a take looks at a side that it names
pub among_looked : (sides : Sides) (side from : Side)
    → looked_at (one_side sides) sides side ≡ Some from → is_among from sides ≡ true
among_looked sides side from e = by (one_side sides) refl e
  where
    named : (b : Bool) → is_among side sides ≡ b → (if b then Some side else None) ≡ Some from
        → is_among from sides ≡ true
    named true is same = subst (λ s. is_among s sides ≡ true) (same_Some side from same) is
    named false is same = cc

    by : (o : Option Side) → one_side sides ≡ o → looked_at o sides side ≡ Some from
        → is_among from sides ≡ true
    by (Some only) is same = one_among sides from (is ∙ same)
    by None is same = named (is_among side sides) refl same

taken_of : (side from : Side) (at : Option ℕ) (cell : ℕ) → at_cell (Take side) at ≡ Take from cell
    → side ≡ from
taken_of side from (Some it) cell e = cc
taken_of side from None cell e = cc

taken_from : (name : ℕ) (at : Option Side) (from : Side) (cell : ℕ)
    → take_from name at ≡ Take from cell → at ≡ Some from
taken_from name (Some side) from cell e = ap Some (taken_of side from (read_cell name side) cell e)
taken_from name None from cell e = cc

pub take_need : (part : Part) (side from : Side) (cell : ℕ) → asks part side ≡ Take from cell
    → takes_at from (need_of part.state) ≡ true
unfolding after
take_need part side from cell e =
    let fits = subst (λ q. Fits q (need_of part.state) part.state.node) e (asks_fits part side) in
    let by_need = moved_asks part side (Some 0) (ap (λ q. (after_asked q (Some 0) part).0) e) in
    ap (takes_at from) fits.2
    ∙ among_looked fits.0 side from (taken_from part.state.node _ from cell
    (sym (ap (λ n. asks_by n part.state.node part.stream side) fits.2) ∙ sym by_need ∙ e))
