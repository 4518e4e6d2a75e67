-- The counts behind one step more.
use Rattle.std.proofs.Common.{◌≡◌, ℕ, ◌+◌, ◌-◌, ◌^◌, ◌<◌, ◌==◌, ◌⊎◌, inl, inr, List, [], ◌∷◌, ◌++◌, get_or, length, length-append, length-set, set, sym, ap, ◌∙◌, subst, arith}
use Rattle.std.specs.Prelude.{cond, min, replicate}
use Rattle.std.specs.List.{filter}
use Rattle.std.proofs.lemmas.Bool.{cases_eq, eq-eqb, ne_eqb}
use Rattle.std.proofs.lemmas.List.{get_or-replicate, get_or-set_other, get_or-set_same}
use Rattle.std.proofs.lemmas.List.Elements.{filter-append}
use Rattle.ga_place.specs.Cell.{index_of, name_at}
use Rattle.ga_place.specs.inner.Index.{index_back}
use Rattle.ga_observe.specs.declared.step.Step.{Step}
use Rattle.ga_observe.specs.Counts.{Counts, count_of}

count-more : (name : ℕ) (steps : List Step) (step : Step)
    → count_of name (steps ++ step ∷ []) ≡ count_of name steps + count_of name (step ∷ [])
count-more name steps step =
    ap (λ (l : List Step). length l)
    (filter-append (λ (one : Step). one.node == name) steps (step ∷ []))
    ∙ length-append (filter (λ (one : Step). one.node == name) steps)
    (filter (λ (one : Step). one.node == name) (step ∷ []))

count_here : (name : ℕ) (step : Step) → step.node ≡ name → count_of name (step ∷ []) ≡ 1
count_here name step e = ap (λ b. length (cond b (step ∷ []) [])) (eq-eqb step.node name e)

count_else : (name : ℕ) (step : Step) → (step.node ≡ name → ⊥) → count_of name (step ∷ []) ≡ 0
count_else name step e = ap (λ b. length (cond b (step ∷ []) [])) (ne_eqb step.node name e)

saturates : (n most : ℕ) → min (min n most + 1) most ≡ min (n + 1) most
saturates n most = omega arith

-- the count of the step's node, one more unless it is the largest
pub counts_more : (counts : List ℕ) (index count : ℕ) (step : Step) (steps : List Step)
    → index < 144 → name_at index ≡ step.node
    → count ≡ min (get_or counts index 0 + 1) (2 ^ 64 - 1) → Counts counts steps
    → Counts (set counts index count) (steps ++ step ∷ [])
counts_more counts index count step steps below named is so_far = record {
  nodes = length-set counts index count ∙ so_far.nodes;
  counted = λ at within. by at within (cases_eq at index);
}
  where
    apart : (at : ℕ) → at < 144 → (at ≡ index → ⊥) → step.node ≡ name_at at → ⊥
    apart at within other same =
        other (sym (index_back at within) ∙ ap index_of (sym same ∙ sym named)
        ∙ index_back index below)

    here : get_or (set counts index count) index 0
        ≡ min (count_of (name_at index) (steps ++ step ∷ [])) (2 ^ 64 - 1)
    here =
        get_or-set_same counts index count 0 (subst (λ n. index < n) (sym so_far.nodes) below)
        ∙ is
        ∙ ap (λ n. min (n + 1) (2 ^ 64 - 1)) (so_far.counted index below)
        ∙ saturates (count_of (name_at index) steps) (2 ^ 64 - 1)
        ∙ ap (λ n. min (count_of (name_at index) steps + n) (2 ^ 64 - 1))
        (sym (count_here (name_at index) step (sym named)))
        ∙ ap (λ n. min n (2 ^ 64 - 1)) (sym (count-more (name_at index) steps step))

    by : (at : ℕ) → at < 144 → (at ≡ index) ⊎ (at ≡ index → ⊥)
        → get_or (set counts index count) at 0
        ≡ min (count_of (name_at at) (steps ++ step ∷ [])) (2 ^ 64 - 1)
    by at within (inl same) =
        subst (λ i. get_or (set counts index count) i 0
        ≡ min (count_of (name_at i) (steps ++ step ∷ [])) (2 ^ 64 - 1)) (sym same) here
    by at within (inr other) =
        let same : count_of (name_at at) (steps ++ step ∷ []) ≡ count_of (name_at at) steps =
        omega (
          arith,
          count-more (name_at at) steps step,
          count_else (name_at at) step (apart at within other),
        ) in
        get_or-set_other counts index at count 0 other ∙ so_far.counted at within
        ∙ ap (λ n. min n (2 ^ 64 - 1)) (sym same)

-- no steps
pub no_counts : (counts : List ℕ) → counts ≡ replicate 144 0 → Counts counts []
no_counts counts is = record {
  nodes = ap (λ (l : List ℕ). length l) is;
  counted = λ index below. ap (λ l. get_or l index 0) is ∙ get_or-replicate 144 index 0 0 below;
}
