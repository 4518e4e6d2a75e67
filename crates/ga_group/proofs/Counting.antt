-- What the tries of nodes add to the steps of all.
use Rattle.std.proofs.Common.{◌≡◌, ◌≢◌, ◌∙◌, ◌⊎◌, inl, inr, ◌+◌, ◌<◌, ◌≤◌, ℕ, zero, suc, Bool, true, false, List, [], ◌∷◌, set, slice_get, Option, Some, None, refl, sym, ap, ap₂, arith}
use Rattle.std.proofs.lemmas.Bool.{cases_eq}
use Rattle.std.specs.Prelude.{if◌then◌else◌}
use Rattle.std.proofs.lemmas.List.Sums.{sum_by-cons}
use Rattle.std.proofs.lemmas.Option.{none-some, same_Some}
use Rattle.ga_place.specs.declared.side.Side.{Side}
use Rattle.ga_chip.specs.Asks.{asked_of, look_of}
use Rattle.ga_chip.specs.Part.{Part, after}
use Rattle.ga_chip.specs.declared.outcome.Outcome.{Outcome}
use Rattle.ga_chip.specs.declared.outcome.Outcome.TheVariants.{Moved, Waits, Held, Stopped}
use Rattle.ga_chip.proofs.Found as found
use Rattle.ga_chip.proofs.Parts.{counts_after, still_after}
use Rattle.ga_group.specs.inner.Tried.{is_move, steps_in, sum_from}

-- what isn't Moved is no move
pub waits_still : (outcome : Outcome) → (outcome ≡ Moved → ⊥) → false ≡ is_move outcome
waits_still Moved still = absurd (still refl)
waits_still Waits still = refl
waits_still Held still = refl
waits_still Stopped still = refl

-- a look that finds nothing is no move
pub looked_waits : (part : Part) (side : Side) (look : Option ℕ)
    → look_of (asked_of part side) ≡ Some look → false ≡ is_move (after part side None).0
looked_waits part side look e =
    waits_still (after part side None).0 (found.looked_waits part side look e)

-- a move is one step more of its node, and any other try none
pub steps_made : (part : Part) (side : Side) (found : Option ℕ) (moved : Bool)
    → moved ≡ is_move (after part side found).0
    → (after part side found).1.state.steps ≡ part.state.steps + (if moved then 1 else 0)
steps_made part side found moved is = by (after part side found).0 refl moved is
  where
    still : ((after part side found).0 ≡ Moved → ⊥)
        → (after part side found).1.state.steps ≡ part.state.steps + 0
    still stays = ap (λ (p : Part). p.state.steps) (still_after part side found stays) ∙ omega arith

    by : (outcome : Outcome) → (after part side found).0 ≡ outcome → (b : Bool)
        → b ≡ is_move (after part side found).0
        → (after part side found).1.state.steps ≡ part.state.steps + (if b then 1 else 0)
    by Moved e true is = counts_after part side found e
    by Moved e false is = let wrong : false ≡ true = is ∙ ap is_move e in absurd cc
    by Waits e true is = let wrong : true ≡ false = is ∙ ap is_move e in absurd cc
    by Waits e false is = still (λ f. cc)
    by Held e true is = let wrong : true ≡ false = is ∙ ap is_move e in absurd cc
    by Held e false is = still (λ f. cc)
    by Stopped e true is = let wrong : true ≡ false = is ∙ ap is_move e in absurd cc
    by Stopped e false is = still (λ f. cc)

-- one node of some was tried
pub steps_set : (parts : List Part) (index : ℕ) (part new : Part)
    → slice_get parts index ≡ Some part
    → steps_in (set parts index new) + part.state.steps ≡ steps_in parts + new.state.steps
steps_set [] index part new there = absurd (none-some part there)
steps_set (one ∷ parts) zero part new there =
    let same : one.state.steps ≡ part.state.steps =
    ap (λ (p : Part). p.state.steps) (same_Some one part there) in
    let here : steps_in (set (one ∷ parts) zero new) ≡ new.state.steps + steps_in parts =
    sum_by-cons (λ (p : Part). p.state.steps) new parts in
    let was : steps_in (one ∷ parts) ≡ one.state.steps + steps_in parts =
    sum_by-cons (λ (p : Part). p.state.steps) one parts in
    omega (arith, same, here, was)
steps_set (one ∷ parts) (suc index) part new there =
    let rest = steps_set parts index part new there in
    let here : steps_in (set (one ∷ parts) (suc index) new) ≡ one.state.steps + steps_in
    (set parts index new) = sum_by-cons (λ (p : Part). p.state.steps) one (set parts index new) in
    let was : steps_in (one ∷ parts) ≡ one.state.steps + steps_in parts =
    sum_by-cons (λ (p : Part). p.state.steps) one parts in
    omega (arith, rest, here, was)

-- ---- the sum of a number for each place

pub sum_same : (a b : ℕ → ℕ) (from count : ℕ) → ((at : ℕ) → from ≤ at → at < from + count
    → b at ≡ a at) → sum_from b from count ≡ sum_from a from count
sum_same a b from zero same = refl
sum_same a b from (suc count) same =
    let self : from ≤ from = omega arith in
    let below : from < from + suc count = omega arith in
    ap₂ (λ x y. x + y) (same from self below) (sum_same a b (from + 1) count
    (λ at low high. let above : from ≤ at = omega (arith, low) in
    let inside : at < from + suc count = omega (arith, high) in same at above inside))

-- all but one are the same
pub sum_set : (a b : ℕ → ℕ) (index from count : ℕ) → from ≤ index → index < from + count
    → ((at : ℕ) → index ≢ at → b at ≡ a at)
    → sum_from b from count + a index ≡ sum_from a from count + b index
sum_set a b index from zero low high others_same =
    let no_ : ⊥ = omega (arith, low, high) in absurd no_
sum_set a b index from (suc count) low high others_same =
    by (λ apart. let later : from + 1 ≤ index = omega (arith, low, apart) in
    let inside : index < from + 1 + count = omega (arith, high) in
    sum_set a b index (from + 1) count later inside others_same) (cases_eq from index)
  where
    by : ((from ≢ index) → sum_from b (from + 1) count + a index
        ≡ sum_from a (from + 1) count + b index) → (from ≡ index) ⊎ (from ≢ index)
        → b from + sum_from b (from + 1) count + a index
        ≡ a from + sum_from a (from + 1) count + b index
    by rest (inl e) =
        let others = sum_same a b (from + 1) count
        (λ at above below. let ne : index ≢ at = omega (arith, above, e) in others_same at ne) in
        let mine : a from ≡ a index = ap a e in
        let its : b from ≡ b index = ap b e in
        omega (arith, others, mine, its)
    by rest (inr apart) =
        let others = rest apart in
        let here : b from ≡ a from = others_same from (λ e. apart (sym e)) in
        omega (arith, others, here)
