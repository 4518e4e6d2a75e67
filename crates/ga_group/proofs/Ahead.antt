-- Nodes whose parts are own steps ahead of their seats.
use Rattle.std.proofs.Common.{◌≡◌, ◌≢◌, ◌∙◌, ◌⊎◌, inl, inr, ℕ, zero, suc, ◌+◌, ◌-◌, ◌<◌, ◌≤◌, min, Bool, true, List, length, replicate, set, Option, None, refl, sym, ap, ap₂, subst, arith}
use Rattle.std.specs.Prelude.{get_or}
use Rattle.std.proofs.lemmas.Bool.{cases_eq}
use Rattle.std.proofs.lemmas.List.{get_or-set_other, get_or-set_same}
use Rattle.ga_place.specs.Cell.{index_of}
use Rattle.ga_place.specs.declared.side.Side.{Side}
use Rattle.ga_place.specs.declared.side.Side.TheVariants.{Right}
use Rattle.ga_chip.specs.declared.asks.Asks.TheVariants as call
use Rattle.ga_chip.specs.declared.outcome.Outcome.TheVariants.{Moved}
use Rattle.ga_chip.specs.Ahead.{IsFree, IsFreeFor, ahead}
use Rattle.ga_chip.specs.Asks.{asked_of, told_as}
use Rattle.ga_chip.specs.Part.{Own, Part, after, stepped}
use Rattle.ga_chip.proofs.AheadOwn.{own_asked}
use Rattle.ga_chip.proofs.Asked.{asked_after}
use Rattle.ga_chip.proofs.Parts.{name_after}
use Rattle.ga_port.specs.declared.seat.Holding.{Holding}
use Rattle.ga_port.specs.Cells.{AsksForNoCell, is_off_cells}
use Rattle.ga_port.specs.Seat.{kept, kept_after, tried_in}
use Rattle.ga_port.proofs.Nodes.{tried_here}
use Rattle.ga_group.specs.inner.Tried.{HasTried, HasTurned, is_move, left}
use Rattle.ga_group.specs.inner.Work.{IsAheadBy, IsLent}
use Rattle.ga_group.proofs.Counting.{steps_made}
use Rattle.ga_group.proofs.Gains.{lent_tried}

-- a try of a node whose next step is its own
pub own_told : (part : Part) (side : Side) → IsFree part → asked_of part side ≡ call.Own
own_told part side is = ap told_as (own_asked part side is)

pub own_after : (part : Part) (side : Side) → IsFree part
    → (Moved, stepped None part) ≡ after part side None
own_after part side is =
    asked_after part side None Own (Moved, stepped None part) (own_asked part side is) refl

-- a node after own steps
pub ahead_node : (made : ℕ) (part : Part) → IsFreeFor made part
    → (ahead made part).state.node ≡ part.state.node
ahead_node zero part may = refl
ahead_node (suc made) part may =
    ahead_node made (stepped None part) may.1
    ∙ ap (λ r. r.1.state.node) (own_after part Right may.0) ∙ name_after part Right None

pub ahead_steps : (made : ℕ) (part : Part) → IsFreeFor made part
    → (ahead made part).state.steps ≡ part.state.steps + made
ahead_steps zero part may = omega arith
ahead_steps (suc made) part may =
    let rest = ahead_steps made (stepped None part) may.1 in
    let one : (stepped None part).state.steps ≡ part.state.steps + 1 =
    ap (λ r. r.1.state.steps) (own_after part Right may.0)
    ∙ steps_made part Right None true (ap (λ r. is_move r.0) (own_after part Right may.0)) in
    omega (arith, rest, one)

-- a node goes ahead
pub runs_ahead : (nodes : List (Option Holding)) (part new : Part) (made : ℕ) → IsLent part nodes
    → IsFreeFor made part → new ≡ ahead made part → IsAheadBy made new nodes
runs_ahead nodes part new made lent may is =
    let same : new.state.node ≡ part.state.node =
    ap (λ (p : Part). p.state.node) is ∙ ahead_node made part may in
    record {
      one = lent.one;
      has = ap (kept nodes) same ∙ lent.has;
      may = subst (IsFreeFor made) (sym lent.same) may;
      same = ap (ahead made) lent.same ∙ sym is;
      below = subst (λ n. index_of n < 144) (sym same) lent.below;
    }

-- the try of a step that was made ahead
pub ahead_entered : (nodes : List (Option Holding)) (part : Part) (made : ℕ) (side : Side)
    → IsAheadBy (suc made) part nodes
    → IsAheadBy made part (tried_in nodes (record { node = part.state.node; side = side }) None)
ahead_entered nodes part made side lent =
    let one = own_after lent.one.part side lent.may.0 in
    record {
      one = kept_after lent.one side None;
      has = tried_here nodes
          (record { node = part.state.node; side = side }) None lent.one lent.has;
      may = subst (λ r. IsFreeFor made r.1) one lent.may.1;
      same = ap (λ r. ahead made r.1) (sym one) ∙ lent.same;
      below = lent.below;
    }

-- it asks for no cell
pub asks_own : (nodes : List (Option Holding)) (part : Part) (made name : ℕ) (side : Side)
    → name ≡ part.state.node → IsAheadBy (suc made) part nodes
    → AsksForNoCell nodes (record { node = name; side = side })
asks_own nodes part made name side same lent = (
  lent.one,
  ap (kept nodes) same ∙ lent.has,
  ap is_off_cells (own_told lent.one.part side lent.may.0),
)

-- a node that makes no step ahead
pub exact_part : (nodes : List (Option Holding)) (part new : Part) (made : ℕ) → made ≡ 0
    → IsAheadBy made part nodes → new ≡ part → IsLent new nodes
exact_part nodes part new made none lent same =
    subst (λ p. IsLent p nodes) (sym same) (subst (λ k. IsAheadBy k part nodes) none lent)

-- ---- the try of a node in a turn

-- one of a node that isn't ahead
pub turned_once : (nodes new : List (Option Holding)) (part at next : Part) (side named : Side)
    (is_moved : Bool) (turn until : ℕ) → until ≤ turn → IsAheadBy (until - turn) part nodes
    → at ≡ part → named ≡ side
    → HasTried (record { node = at.state.node; side = named }) nodes new at next is_moved
    → HasTurned turn until until (record { node = part.state.node; side = side }) nodes new part
    next is_moved
turned_once nodes new part at next side named is_moved turn until past lent same is tried =
    by (subst (λ s. HasTried (record { node = part.state.node; side = s }) nodes new part next
    is_moved) is (subst (λ p. HasTried (record { node = p.state.node; side = named }) nodes new p
    next is_moved) same tried))
  where
    by : HasTried (record { node = part.state.node; side = side }) nodes new part next is_moved
        → HasTurned turn until until (record { node = part.state.node; side = side }) nodes new part
        next is_moved
    by (found, entered, made, moved) =
        let none : until - turn ≡ 0 = omega (arith, past) in
        let left : until - (turn + 1) ≡ 0 = omega (arith, past) in
        let exact = exact_part nodes part part (until - turn) none lent refl in
        let steps = ap (λ (p : Part). p.state.steps) made
        ∙ steps_made part side found is_moved moved in (
          found,
          entered,
          subst (λ k. IsAheadBy k next new) (sym left) (subst (IsLent next) (sym entered)
              (lent_tried nodes part next side found exact
              (ap (λ (p : Part). p.state.node) made ∙ name_after part side found) made)),
          omega (arith, steps, none, left),
        )

-- one of a node that goes ahead
pub turned_ahead : (nodes new : List (Option Holding)) (part next : Part) (side : Side)
    (turn until made : ℕ) → until ≤ turn → (made ≡ 0 → ⊥) → IsLent part nodes
    → IsFreeFor made part → next ≡ ahead made part
    → new ≡ tried_in nodes (record { node = part.state.node; side = side }) None
    → HasTurned turn until (turn + made) (record { node = part.state.node; side = side }) nodes new
    part next true
turned_ahead nodes new part next side turn until made past some lent free run entered =
    let left = turn + made - (turn + 1) in
    let more : made ≡ suc left = omega (arith, some) in
    let same = ap (λ (p : Part). p.state.node) run ∙ ahead_node made part free in
    let steps = ap (λ (p : Part). p.state.steps) run ∙ ahead_steps made part free in
    let after = ahead_entered nodes next left side
    (subst (λ k. IsAheadBy k next nodes) more (runs_ahead nodes part next made lent free run)) in (
      None,
      entered,
      subst (IsAheadBy left next)
          (ap (λ n. tried_in nodes (record { node = n; side = side }) None) same ∙ sym entered)
          after,
      omega (arith, steps, more, past),
    )

-- ---- how far nodes are ahead in a turn

-- the node that is tried next
pub left_here : (until : List ℕ) (turn index : ℕ)
    → left until turn index index ≡ get_or until index 0 - turn
left_here until turn index =
    let whole : turn + min 1 (index - index) ≡ turn = omega arith in
    ap (λ n. get_or until index 0 - n) whole

-- it was tried
pub left_set : (until : List ℕ) (turn index new : ℕ) → index < length until
    → left (set until index new) turn (index + 1) index ≡ new - (turn + 1)
left_set until turn index new below =
    let one : min 1 (index + 1 - index) ≡ 1 = omega arith in
    ap₂ (λ u n. u - (turn + n)) (get_or-set_same until index new 0 below) one

pub left_else : (until : List ℕ) (turn index new at : ℕ) → index ≢ at
    → left (set until index new) turn (index + 1) at ≡ left until turn index at
left_else until turn index new at apart =
    let same : min 1 (index + 1 - at) ≡ min 1 (index - at) = omega (arith, apart) in
    let ne : at ≢ index = λ e. apart (sym e) in
    ap₂ (λ u n. u - (turn + n)) (get_or-set_other until index at new 0 ne) same

-- all were tried
pub left_end : (until : List ℕ) (turn count at : ℕ) → at < count
    → left until (turn + 1) 0 at ≡ left until turn count at
left_end until turn count at below =
    let same : turn + 1 + min 1 (0 - at) ≡ turn + min 1 (count - at) = omega (arith, below) in
    ap (λ n. get_or until at 0 - n) same

-- no turn is left
pub left_none : (until : List ℕ) (turns at : ℕ) → get_or until at 0 ≤ turns
    → left until turns 0 at ≡ 0
left_none until turns at within = omega (arith, within)

-- a bound of all numbers
pub within_set : (until : List ℕ) (index new end : ℕ) → index < length until → new ≤ end
    → ((at : ℕ) → get_or until at 0 ≤ end) → (at : ℕ) → get_or (set until index new) at 0 ≤ end
within_set until index new end below low all at = by (cases_eq index at)
  where
    by : (index ≡ at) ⊎ (index ≢ at) → get_or (set until index new) at 0 ≤ end
    by (inl e) =
        subst (λ i. get_or (set until index new) i 0 ≤ end) e
        (subst (λ u. u ≤ end) (sym (get_or-set_same until index new 0 below)) low)
    by (inr apart) =
        subst (λ u. u ≤ end) (sym (get_or-set_other until index at new 0 (λ e. apart (sym e))))
        (all at)

-- before the first turn
none_at : (count at : ℕ) → ◌≡◌ {A = ℕ} (get_or (replicate count 0) at 0) 0
none_at zero at = refl
none_at (suc count) zero = refl
none_at (suc count) (suc at) = none_at count at

pub left_start : (count at : ℕ) → left (replicate count 0) 0 0 at ≡ 0
left_start count at = omega (arith, none_at count at)

pub within_start : (count end at : ℕ) → get_or (replicate count 0) at 0 ≤ end
within_start count end at = omega (arith, none_at count at)
