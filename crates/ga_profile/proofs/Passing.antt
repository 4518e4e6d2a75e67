-- Passes behind one step more.
use Rattle.std.proofs.Common.{◌≡◌, ℕ, zero, suc, ◌+◌, ◌*◌, ◌<◌, ◌≤◌, ◌==◌, ◌⊎◌, inl, inr, Bool, true, false, List, [], ◌∷◌, ◌++◌, get_or, length, set, sym, ap, ◌∙◌, refl, subst, arith, rules}
use Rattle.std.specs.Prelude.{◌&&◌, if◌then◌else◌, nat_le, Option, Some, None, replicate}
use Rattle.std.specs.Option.{option_map_or}
use Rattle.std.proofs.lemmas.Bool.{cases_eq, eq-eqb, ne_eqb}
use Rattle.std.proofs.lemmas.List.{get_or_default, get_or-replicate, get_or-set_other, get_or-set_same}
use Rattle.ga_observe.specs.declared.step.Step.{Step}
use Rattle.ga_profile.specs.declared.passes.Passes.{Passes}
use Rattle.ga_profile.specs.inner.KeptPasses.{KeptPasses}
use Rattle.ga_profile.specs.NodePass.{more_of, most_of}
use Rattle.ga_profile.specs.inner.PlaceRead.{place_read}
use Rattle.ga_profile.specs.Passes.{NO_PASSES, is_at, passed, passes_in, passes_on, place_of}

-- steps behind others
passes_on-append : (from place : ℕ) (old : Passes) (steps more : List Step)
    → passes_on from place old (steps ++ more)
    ≡ passes_on from place (passes_on from place old steps) more
passes_on-append from place old [] more = refl
passes_on-append from place old (step ∷ steps) more =
    passes_on-append from place
    (if nat_le from step.turn && is_at place step then passed old step else old) steps more

-- one more step, by whether it counts
one_step : (from place : ℕ) (steps : List Step) (step : Step) (counts : Bool)
    → (nat_le from step.turn && is_at place step) ≡ counts
    → passes_in from place (steps ++ step ∷ [])
    ≡ (if counts then passed (passes_in from place steps) step else passes_in from place steps)
one_step from place steps step counts is =
    let so_far = passes_in from place steps in
    passes_on-append from place NO_PASSES steps (step ∷ [])
    ∙ ap (λ (b : Bool). if b then passed so_far step else so_far) is

-- a step that doesn't count
pub passes_same : (from : ℕ) (places : List Passes) (step : Step) (steps : List Step)
    → ((place : ℕ) → (nat_le from step.turn && is_at place step) ≡ false)
    → KeptPasses from places steps → KeptPasses from places (steps ++ step ∷ [])
passes_same from places step steps none so_far = record {
  each = λ place within. so_far.each place within
      ∙ sym (one_step from place steps step false (none place));
}

-- before the window
before_from : (from turn : ℕ) (b : Bool) → turn < from → (nat_le from turn && b) ≡ false
before_from from turn b before =
    let no : nat_le from turn ≡ false = search rules in ap (λ (c : Bool). c && b) no

pub passes_before : (from : ℕ) (places : List Passes) (step : Step) (steps : List Step)
    → step.turn < from → KeptPasses from places steps
    → KeptPasses from places (steps ++ step ∷ [])
passes_before from places step steps before so_far =
    passes_same from places step steps
    (λ place. before_from from step.turn (is_at place step) before) so_far

-- at no place
no_place : (from place : ℕ) (step : Step) → place_of step ≡ None
    → (nat_le from step.turn && is_at place step) ≡ false
no_place from place step none =
    ap (λ (at : Option ℕ). nat_le from step.turn && option_map_or (λ p. p == place) at false) none
    ∙ and_false (nat_le from step.turn)
  where
    and_false : (b : Bool) → (b && false) ≡ false
    and_false true = refl
    and_false false = refl

pub passes_nowhere : (from : ℕ) (places : List Passes) (step : Step) (steps : List Step)
    → place_of step ≡ None → KeptPasses from places steps
    → KeptPasses from places (steps ++ step ∷ [])
passes_nowhere from places step steps none so_far =
    passes_same from places step steps (λ place. no_place from place step none) so_far

-- at a place
at_place : (from place at : ℕ) (step : Step) (b : Bool) → from ≤ step.turn
    → place_of step ≡ Some at → (at == place) ≡ b
    → (nat_le from step.turn && is_at place step) ≡ b
at_place from place at step b within here is =
    ap (λ (c : Bool). c && is_at place step) (in_window from step.turn within)
    ∙ ap (λ (o : Option ℕ). option_map_or (λ p. p == place) o false) here ∙ is
  where
    in_window : (from turn : ℕ) → from ≤ turn → nat_le from turn ≡ true
    in_window from turn within = search rules

pub passes_more : (from own at : ℕ) (places : List Passes) (other new : Passes) (step : Step)
    (steps : List Step) → at < 36864 → length places ≡ 36864 → own ≡ from → own ≤ step.turn
    → place_of step ≡ Some at → new ≡ passed (get_or places at other) step
    → KeptPasses from places steps → KeptPasses from (set places at new) (steps ++ step ∷ [])
passes_more from own at places other new step steps below all same after here is so_far = record {
  each = λ place within. by place within (cases_eq place at);
}
  where
    within_all : at < length places
    within_all = subst (λ n. at < n) (sym all) below

    in_turns : from ≤ step.turn
    in_turns = subst (λ n. n ≤ step.turn) same after

    own_place : get_or (set places at new) at NO_PASSES
        ≡ passes_in from at (steps ++ step ∷ [])
    own_place =
        get_or-set_same places at new NO_PASSES within_all ∙ is
        ∙ ap (λ old. passed old step)
        (get_or_default places at other NO_PASSES within_all ∙ so_far.each at below)
        ∙ sym (one_step from at steps step true
        (at_place from at at step true in_turns here (eq-eqb at at refl)))

    by : (place : ℕ) → place < 36864 → (place ≡ at) ⊎ (place ≡ at → ⊥)
        → get_or (set places at new) place NO_PASSES
        ≡ passes_in from place (steps ++ step ∷ [])
    by place within (inl alike) =
        subst (λ i. get_or (set places at new) i NO_PASSES
        ≡ passes_in from i (steps ++ step ∷ [])) (sym alike) own_place
    by place within (inr differs) =
        get_or-set_other places at place new NO_PASSES differs ∙ so_far.each place within
        ∙ sym (one_step from place steps step false
        (at_place from place at step false in_turns here
        (ne_eqb at place (λ alike. differs (sym alike)))))

-- no steps
pub passes_none : (from : ℕ) (places : List Passes) → places ≡ replicate 36864 NO_PASSES
    → KeptPasses from places []
passes_none from places is = record {
  each = λ place below. ap (λ l. get_or l place NO_PASSES) is
      ∙ get_or-replicate 36864 place NO_PASSES NO_PASSES below;
}

-- one place more
pub most_more : (passes : ℕ → Passes) (count : ℕ) (most other new : Passes)
    → most ≡ most_of passes count → other ≡ passes count → new ≡ more_of most other
    → new ≡ most_of passes (count + 1)
most_more passes count most other new so_far is wrote =
    let one : suc count ≡ count + 1 = omega arith in
    wrote ∙ ap (λ m. more_of m other) so_far ∙ ap (λ o. more_of (most_of passes count) o) is
    ∙ ap (most_of passes) one

-- the most of equal passes
most_alike : (passes others : ℕ → Passes) (count : ℕ)
    → ((place : ℕ) → place < count → passes place ≡ others place)
    → most_of passes count ≡ most_of others count
most_alike passes others zero alike = refl
most_alike passes others (suc count) alike =
    ap (λ most. more_of most (passes count))
    (most_alike passes others count (λ place below. alike place (omega (arith, below))))
    ∙ ap (λ other. more_of (most_of others count) other) (alike count (omega arith))

-- those of a node, in the list that is kept
pub most_kept : (from index : ℕ) (places : List Passes) (steps : List Step) → index < 144
    → KeptPasses from places steps
    → most_of (place_read places index) 256
    ≡ most_of (λ place. passes_in from (index * 256 + place) steps) 256
most_kept from index places steps below kept =
    most_alike (place_read places index) (λ place. passes_in from (index * 256 + place) steps) 256
    (λ place within. kept.each (index * 256 + place) (omega (arith, below, within)))
