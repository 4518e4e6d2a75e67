-- The depths of all nodes, turn by turn.
use Rattle.std.proofs.Common.{◌≡◌, ◌∙◌, ℕ, ◌+◌, ◌<◌, ◌≤◌, ◌==◌, ◌⊎◌, inl, inr, true, false, List, [], ◌∷◌, ◌++◌, ap, arith, get_or, length, map, refl, set, subst, sym}
use Rattle.std.specs.Prelude.{Option, Some, None, replicate}
use Rattle.std.specs.List.{range_with_len}
use Rattle.std.proofs.lemmas.Bool.{cases_eq, eq-eqb, ne_eqb}
use Rattle.std.proofs.lemmas.List.{ext_get_or, get_or_default, get_or-replicate, get_or-set_other, get_or-set_same}
use Rattle.std.proofs.lemmas.List.FromFn.{get_or-map-range_with_len, length-map-range_with_len}
use Rattle.ga_place.specs.Cell.{index_of, name_at}
use Rattle.ga_place.specs.inner.Index.{index_back}
use Rattle.ga_chip.specs.Chip.{Chip, state_of}
use Rattle.ga_observe.specs.declared.step.Step.{Step}
use Rattle.ga_trace.specs.declared.depth.StackDepths.{StackDepths}
use Rattle.ga_trace.specs.declared.last_steps.NodeStep.{NodeStep}
use Rattle.ga_trace.specs.Depth.{BOTH_EMPTY, after_step, all_depths, deep_from, never, r_of}
use Rattle.ga_trace.specs.Last.{last_by}
use Rattle.ga_trace.specs.Traced.{moved_in, quiet_after, step_in, turned}
use Rattle.ga_trace.specs.inner.AllDepths.{AreOnTheWay, HaveSteps, HaveTurn, HaveTurns, deepened}
use Rattle.ga_trace.specs.inner.LastSteps.{HaveSeen, HaveStarted, NO_STEP, node_last}
use Rattle.ga_trace.proofs.Deepening.{deep_done, deep_ended, deep_next}
use Rattle.ga_trace.proofs.LastSteps.{one_last, other_last}

-- ---- one step more

-- what a list has at an index behind a write there, and elsewhere
at_write : {A : Type 0} (l : List A) (index at : ℕ) (new d : A) (P : ℕ → A → Type 0)
    → index < length l → P index new → ((at ≡ index → ⊥) → P at (get_or l at d))
    → P at (get_or (set l index new) at d)
at_write l index at new d P within here there = by (cases_eq at index)
  where
    by : (at ≡ index) ⊎ (at ≡ index → ⊥) → P at (get_or (set l index new) at d)
    by (inl alike) =
        subst (λ i. P i (get_or (set l index new) i d)) (sym alike)
        (subst (P index) (sym (get_or-set_same l index new d within)) here)
    by (inr differs) =
        subst (P at) (sym (get_or-set_other l index at new d differs)) (there differs)

-- the last steps behind one step more
pub seen_next : (index : ℕ) (begun last : List NodeStep) (found : NodeStep) (step : Step)
    (steps : List Step) → index < 144 → length last ≡ 144 → name_at index ≡ step.node
    → found ≡ get_or last index found → HaveSeen begun last steps
    → HaveSeen begun (set last index (record { r = found.r; step = Some step }))
    (steps ++ step ∷ [])
seen_next index begun last found step steps below all named is seen = record {
  each = λ at within.
      at_write last index at (record { r = found.r; step = Some step }) NO_STEP
      (λ i one. one ≡ node_last (name_at i) (get_or begun i NO_STEP) (steps ++ step ∷ []))
      inside here (there at within);
}
  where
    inside : index < length last
    inside = subst (λ n. index < n) (sym all) below

    old : NodeStep
    old = get_or begun index NO_STEP

    before : found ≡ node_last (name_at index) old steps
    before = is ∙ get_or_default last index found NO_STEP inside ∙ seen.each index below

    here : record { r = found.r; step = Some step }
        ≡ node_last (name_at index) old (steps ++ step ∷ [])
    here =
        ap (λ (one : NodeStep). record { r = one.r; step = Some step }) before
        ∙ ap (λ (s : Option Step). record { r = old.r; step = s })
        (one_last (name_at index) (name_at index) old.step
        (last_by (name_at index) old.step steps) steps step refl refl
        (eq-eqb step.node (name_at index) (sym named)))

    there : (at : ℕ) → at < 144 → (at ≡ index → ⊥)
        → get_or last at NO_STEP
        ≡ node_last (name_at at) (get_or begun at NO_STEP) (steps ++ step ∷ [])
    there at within differs =
        let own : NodeStep = get_or begun at NO_STEP in
        let apart : step.node ≡ name_at at → ⊥ = λ alike.
        differs (sym (index_back at within) ∙ ap index_of (sym alike ∙ sym named)
        ∙ index_back index below) in
        seen.each at within
        ∙ ap (λ (s : Option Step). record { r = own.r; step = s })
        (other_last (name_at at) (name_at at) own.step (last_by (name_at at) own.step steps) steps
        step refl refl (ne_eqb step.node (name_at at) apart))

pub seen_none : (last : List NodeStep) → HaveSeen last last []
seen_none last = record { each = λ index below. refl }

-- ---- one turn more

-- the last steps in a turn are those that the nodes make
pub turn_made : (number : ℕ) (chip : Chip) (begun last : List NodeStep) (steps : List Step)
    (old new : List StackDepths) → HaveStarted chip begun → HaveSeen begun last steps
    → ((name : ℕ) → step_in name number chip ≡ last_by name None steps)
    → HaveSteps last old new → HaveTurn number chip old new
turn_made number chip begun last steps old new start seen is made = record {
  all = made.all;
  each = λ index below.
      let name = name_at index in
      let both = get_or old index BOTH_EMPTY in
      made.each index below
      ∙ ap (λ (one : NodeStep). deepened one both) (seen.each index below
      ∙ ap (λ (one : NodeStep). node_last name one steps) (start.each index below))
      ∙ ap (λ (s : Option Step). after_step s (r_of (state_of chip name)) both) (sym (is name));
}

-- the depths of all nodes lead to those behind all turns
pub way_next : (most number quiet moved : ℕ) (start chip next : Chip)
    (old depths new : List StackDepths) → number < most → (quiet == 4) ≡ false
    → next ≡ turned number chip → moved ≡ moved_in number chip → HaveTurn number chip depths new
    → AreOnTheWay most number quiet start chip old depths
    → AreOnTheWay most (number + 1) (quiet_after quiet moved) start next old new
way_next most number quiet moved start chip next old depths new within going is_next is_moved made
    way = record {
      all = made.all;
      each = λ index below.
          let name = name_at index in
          deep_next most number quiet never name (get_or depths index BOTH_EMPTY)
          (get_or new index BOTH_EMPTY) chip next moved (step_in name number chip)
          (r_of (state_of chip name)) _ within going is_next is_moved refl refl
          (made.each index below) (way.each index below);
    }

-- no node can move any more
pub way_over : (most number quiet : ℕ) (start chip : Chip) (old depths : List StackDepths)
    → number < most → (quiet == 4) ≡ true → AreOnTheWay most number quiet start chip old depths
    → HaveTurns most start chip old depths
way_over most number quiet start chip old depths within over way = record {
  all = way.all;
  each = λ index below. deep_done most number quiet never (name_at index)
      (get_or depths index BOTH_EMPTY) chip _ within over (way.each index below);
}

-- all turns were made
pub way_ended : (most number quiet : ℕ) (start chip : Chip) (old depths : List StackDepths)
    → most ≤ number → AreOnTheWay most number quiet start chip old depths
    → HaveTurns most start chip old depths
way_ended most number quiet start chip old depths past way = record {
  all = way.all;
  each = λ index below. deep_ended most number quiet never (name_at index)
      (get_or depths index BOTH_EMPTY) chip _ past (way.each index below);
}

-- the depths behind all turns, as one list
pub all_made : (most : ℕ) (start chip : Chip) (old depths : List StackDepths)
    → old ≡ replicate 144 BOTH_EMPTY → HaveTurns most start chip old depths
    → depths ≡ all_depths most start
unfolding all_depths
all_made most start chip old depths empty made =
    let deep : ℕ → StackDepths = λ index.
    (deep_from most 0 0 never (name_at index) BOTH_EMPTY start).0 in
    let by_index : (index : ℕ) → index < length depths → get_or depths index BOTH_EMPTY
    ≡ get_or (map deep (range_with_len 0 144)) index BOTH_EMPTY = λ index within.
    let below : index < 144 = subst (λ n. index < n) made.all within in
    let here : 0 + index ≡ index = omega arith in
    let none : get_or old index BOTH_EMPTY ≡ BOTH_EMPTY =
    ap (λ (l : List StackDepths). get_or l index BOTH_EMPTY) empty
    ∙ get_or-replicate 144 index BOTH_EMPTY BOTH_EMPTY below in
    ap (λ (both : StackDepths × Chip). both.0) (made.each index below
    ∙ ap (λ (d : StackDepths). deep_from most 0 0 never (name_at index) d start) none)
    ∙ sym (get_or-map-range_with_len deep 0 144 index index BOTH_EMPTY below here) in
    ext_get_or BOTH_EMPTY depths (map deep (range_with_len 0 144))
    (made.all ∙ sym (length-map-range_with_len deep 0 144)) by_index
