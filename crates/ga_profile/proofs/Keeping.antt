-- The turns of nodes behind one step more, and behind one turn more.
use Rattle.std.proofs.Common.{◌≡◌, ℕ, suc, ◌+◌, ◌<◌, arith, ◌==◌, ◌⊎◌, inl, inr, Bool, false, List, [], ◌∷◌, ◌++◌, get_or, length, set, sym, ap, ap₂, ◌∙◌, refl, subst}
use Rattle.std.specs.Prelude.{if◌then◌else◌, map, replicate}
use Rattle.std.specs.List.{range_with_len}
use Rattle.std.proofs.lemmas.Bool.{cases_eq, eq-eqb, ne_eqb}
use Rattle.std.proofs.lemmas.List.{ext_get_or, get_or_default, get_or-replicate, get_or-set_other, get_or-set_same}
use Rattle.std.proofs.lemmas.List.FromFn.{get_or-map-range_with_len, length-map-range_with_len}
use Rattle.ga_place.specs.Cell.{index_of, name_at}
use Rattle.ga_place.specs.inner.Index.{index_back}
use Rattle.ga_chip.specs.Chip.{Chip}
use Rattle.ga_chip.specs.Run.{ran, side_of_turn, turn_of, turns_of}
use Rattle.ga_chip.proofs.Turning.{one_turn}
use Rattle.ga_observe.specs.Seen.{numbered, steps_seen}
use Rattle.ga_observe.specs.declared.step.Step.{Step}
use Rattle.ga_trace.specs.Rest.{spins}
use Rattle.ga_profile.specs.declared.node_turns.NodeTurns.{NodeTurns}
use Rattle.ga_profile.specs.declared.turn_watch.TurnWatch.{TurnWatch}
use Rattle.ga_profile.specs.HasRun.{GoesOn, HasRun, node_after}
use Rattle.ga_profile.specs.NodeTurns.{NO_TURNS, after_step, turns_in, turns_on}
use Rattle.ga_profile.specs.Profile.{watched}

-- ---- one step more

-- steps behind others
turns_on-append : (from name : ℕ) (spinning : Bool) (old : NodeTurns) (steps more : List Step)
    → turns_on from name spinning old (steps ++ more)
    ≡ turns_on from name spinning (turns_on from name spinning old steps) more
turns_on-append from name spinning old [] more = refl
turns_on-append from name spinning old (step ∷ steps) more =
    turns_on-append from name spinning
    (if step.node == name then after_step from spinning old step else old) steps more

-- one more step, of the node or of another one
own_step : (from name : ℕ) (spinning : Bool) (old : NodeTurns) (steps : List Step) (step : Step)
    → step.node ≡ name
    → turns_on from name spinning old (steps ++ step ∷ [])
    ≡ after_step from spinning (turns_on from name spinning old steps) step
own_step from name spinning old steps step is =
    let so_far = turns_on from name spinning old steps in
    turns_on-append from name spinning old steps (step ∷ [])
    ∙ ap (λ (b : Bool). if b then after_step from spinning so_far step else so_far)
    (eq-eqb step.node name is)

other_step : (from name : ℕ) (spinning : Bool) (old : NodeTurns) (steps : List Step) (step : Step)
    → (step.node ≡ name → ⊥)
    → turns_on from name spinning old (steps ++ step ∷ [])
    ≡ turns_on from name spinning old steps
other_step from name spinning old steps step other =
    let so_far = turns_on from name spinning old steps in
    turns_on-append from name spinning old steps (step ∷ [])
    ∙ ap (λ (b : Bool). if b then after_step from spinning so_far step else so_far)
    (ne_eqb step.node name other)

-- the watch behind one step more
pub goes_on : (begun old new : TurnWatch) (index : ℕ) (fallback next : NodeTurns) (step : Step)
    (steps : List Step) → index < 144 → name_at index ≡ step.node
    → length old.nodes.items ≡ 144 → new.from ≡ old.from → new.spinning ≡ old.spinning
    → new.spins ≡ old.spins → new.nodes.items ≡ set old.nodes.items index next
    → next ≡ after_step old.from (get_or old.spinning index false)
    (get_or old.nodes.items index fallback) step
    → GoesOn begun old steps → GoesOn begun new (steps ++ step ∷ [])
goes_on begun old new index fallback next step steps below named all from flags spins items is
    so_far = record {
      from = from ∙ so_far.from;
      spinning = flags ∙ so_far.spinning;
      spins = spins ∙ so_far.spins;
      each = λ at within. ap (λ l. get_or l at NO_TURNS) items ∙ by at within (cases_eq at index);
    }
  where
    nodes : List NodeTurns
    nodes = old.nodes.items

    within_all : index < length nodes
    within_all = subst (λ n. index < n) (sym all) below

    apart : (at : ℕ) → at < 144 → (at ≡ index → ⊥) → step.node ≡ name_at at → ⊥
    apart at within differs alike =
        differs (sym (index_back at within) ∙ ap index_of (sym alike ∙ sym named)
        ∙ index_back index below)

    here : get_or (set nodes index next) index NO_TURNS
        ≡ node_after begun (steps ++ step ∷ []) index
    here =
        get_or-set_same nodes index next NO_TURNS within_all ∙ is
        ∙ ap₂ (λ f b. after_step f b (get_or nodes index fallback) step) so_far.from
        (ap (λ l. get_or l index false) so_far.spinning)
        ∙ ap (λ o. after_step begun.from (get_or begun.spinning index false) o step)
        (get_or_default nodes index fallback NO_TURNS within_all ∙ so_far.each index below)
        ∙ sym (own_step begun.from (name_at index) (get_or begun.spinning index false)
        (get_or begun.nodes.items index NO_TURNS) steps step (sym named))

    by : (at : ℕ) → at < 144 → (at ≡ index) ⊎ (at ≡ index → ⊥)
        → get_or (set nodes index next) at NO_TURNS ≡ node_after begun (steps ++ step ∷ []) at
    by at within (inl alike) =
        subst (λ i. get_or (set nodes index next) i NO_TURNS
        ≡ node_after begun (steps ++ step ∷ []) i) (sym alike) here
    by at within (inr differs) =
        get_or-set_other nodes index at next NO_TURNS differs ∙ so_far.each at within
        ∙ sym (other_step begun.from (name_at at) (get_or begun.spinning at false)
        (get_or begun.nodes.items at NO_TURNS) steps step (apart at within differs))

-- ---- one turn more

-- it is noted of one node more whether it spins
pub flags_more : (chip : Chip) (flags : List Bool) (index : ℕ) (flag : Bool) → index < 144
    → length flags ≡ 144 → flag ≡ spins chip (name_at index)
    → ((at : ℕ) → at < index → get_or flags at false ≡ spins chip (name_at at))
    → (at : ℕ) → at < index + 1 → get_or (set flags index flag) at false ≡ spins chip (name_at at)
flags_more chip flags index flag below all is so_far at within = by (cases_eq at index)
  where
    by : (at ≡ index) ⊎ (at ≡ index → ⊥)
        → get_or (set flags index flag) at false ≡ spins chip (name_at at)
    by (inl alike) =
        subst (λ i. get_or (set flags index flag) i false ≡ spins chip (name_at i)) (sym alike)
        (get_or-set_same flags index flag false (omega (arith, below, all)) ∙ is)
    by (inr differs) =
        get_or-set_other flags index at flag false differs
        ∙ so_far at (omega (arith, within, differs))

-- at first no step was seen
pub nothing_seen : (watch : TurnWatch) → GoesOn watch watch []
nothing_seen watch = record {
  from = refl;
  spinning = refl;
  spins = refl;
  each = λ index below. refl;
}

-- the run behind one turn more, before which it was noted which nodes spin
pub turn_more : (from number : ℕ) (start now next : Chip) (old marked new : TurnWatch)
    → marked.from ≡ old.from → marked.nodes.items ≡ old.nodes.items
    → ((index : ℕ) → index < 144
    → get_or marked.spinning index false ≡ spins now (name_at index))
    → next ≡ ran now (turn_of (side_of_turn number))
    → GoesOn marked new (steps_seen now (numbered number (turn_of (side_of_turn number))))
    → HasRun from start number now old → HasRun from start (number + 1) next new
unfolding turns_in
turn_more from number start now next old marked new same_from same_nodes flags is_next seen has =
    record {
      begun = seen.from ∙ same_from ∙ has.begun;
      chip = one_turn start now next number has.chip is_next;
      each = each;
    }
  where
    steps : List Step
    steps = steps_seen now (numbered number (turn_of (side_of_turn number)))

    one : suc number ≡ number + 1
    one = omega arith

    each : (index : ℕ) → index < 144
        → get_or new.nodes.items index NO_TURNS ≡ turns_in from (name_at index) (number + 1) start
    each index below =
        let name = name_at index in
        seen.each index below
        ∙ ap₂ (λ f b. turns_on f name b (get_or marked.nodes.items index NO_TURNS) steps)
        (same_from ∙ has.begun) (flags index below)
        ∙ ap (λ (o : NodeTurns). turns_on from name (spins now name) o steps)
        (ap (λ l. get_or l index NO_TURNS) same_nodes ∙ has.each index below)
        ∙ ap (λ (c : Chip). turns_on from name (spins c name) (turns_in from name number start)
        (steps_seen c (numbered number (turn_of (side_of_turn number))))) has.chip
        ∙ ap (λ n. turns_in from name n start) one

-- no turns
pub no_run : (from : ℕ) (chip : Chip) (watch : TurnWatch) → watch.from ≡ from
    → watch.nodes.items ≡ replicate 144 NO_TURNS → HasRun from chip 0 chip watch
unfolding turns_in turns_of
no_run from chip watch begun is = record {
  begun = begun;
  chip = refl;
  each = λ index below. ap (λ l. get_or l index NO_TURNS) is
      ∙ get_or-replicate 144 index NO_TURNS NO_TURNS below;
}

-- what is kept, as one list
pub all_watched : (from turns : ℕ) (start now : Chip) (watch : TurnWatch)
    → length watch.nodes.items ≡ 144 → HasRun from start turns now watch
    → watch.nodes.items ≡ watched from turns start
unfolding watched
all_watched from turns start now watch all has =
    let each : ℕ → NodeTurns = λ index. turns_in from (name_at index) turns start in
    let by_index : (index : ℕ) → index < length watch.nodes.items
    → get_or watch.nodes.items index NO_TURNS
    ≡ get_or (map each (range_with_len 0 144)) index NO_TURNS = λ index within.
    let below : index < 144 = subst (λ n. index < n) all within in
    let here : 0 + index ≡ index = omega arith in
    has.each index below
    ∙ sym (get_or-map-range_with_len each 0 144 index index NO_TURNS below here) in
    ext_get_or NO_TURNS watch.nodes.items (map each (range_with_len 0 144))
    (all ∙ sym (length-map-range_with_len each 0 144)) by_index
