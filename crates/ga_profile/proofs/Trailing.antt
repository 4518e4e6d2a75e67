-- Trails behind one step more.
use Rattle.std.proofs.Common.{◌≡◌, ℕ, ◌+◌, ◌<◌, ◌≤◌, ◌==◌, ◌⊎◌, inl, inr, Bool, true, false, List, [], ◌∷◌, ◌++◌, get_or, length, length-set, set, sym, ap, ◌∙◌, refl, subst, arith}
use Rattle.std.specs.Prelude.{◌||◌, if◌then◌else◌, Option, Some, None, map, replicate, reverse}
use Rattle.std.specs.List.{range_with_len}
use Rattle.std.specs.Option.{option_map_or}
use Rattle.std.proofs.lemmas.Bool.{cases_eq, eq-eqb, false≢true, ne_eqb}
use Rattle.std.proofs.lemmas.List.{ext_get_or, get_or_default, get_or-replicate, get_or-set_other, get_or-set_same, reverse-append}
use Rattle.std.proofs.lemmas.List.FromFn.{get_or-map-range_with_len, length-map-range_with_len}
use Rattle.ga_observe.specs.declared.step.Step.{Step}
use Rattle.ga_profile.specs.declared.trail.Trail.{Trail}
use Rattle.ga_profile.specs.Marks.{is_marked, mark_before, port_mark, step_mark}
use Rattle.ga_profile.specs.NodeTurns.{more}
use Rattle.ga_profile.specs.Path.{Path, last_turn, longer, path_to, turns_of, turns_up_to}
use Rattle.ga_profile.specs.inner.Trails.{IsTrailOf, KeptTrails, NO_TRAIL, lengthened}

-- ---- the trail of one path

-- a step that is longer has its turns
own_kind : (kind_of : Step → ℕ) (kind : ℕ) (path : Path) (step : Step) (turns : ℕ)
    → kind_of step ≡ kind
    → turns_of kind_of kind ((step, turns) ∷ path) ≡ more (turns_of kind_of kind path) turns
own_kind kind_of kind path step turns is =
    ap (λ (b : Bool). if b then more (turns_of kind_of kind path) turns
    else turns_of kind_of kind path) (eq-eqb (kind_of step) kind is)

other_kind : (kind_of : Step → ℕ) (kind : ℕ) (path : Path) (step : Step) (turns : ℕ)
    → (kind_of step ≡ kind → ⊥)
    → turns_of kind_of kind ((step, turns) ∷ path) ≡ turns_of kind_of kind path
other_kind kind_of kind path step turns differs =
    ap (λ (b : Bool). if b then more (turns_of kind_of kind path) turns
    else turns_of kind_of kind path) (ne_eqb (kind_of step) kind differs)

pub trail_more : (kind_of : Step → ℕ) (from : ℕ) (path : Path) (trail : Trail) (step : Step)
    → kind_of step < 715 → IsTrailOf kind_of path trail
    → IsTrailOf kind_of (longer from path step) (lengthened from trail step.turn (kind_of step))
trail_more kind_of from path trail step below is = record {
  last = refl;
  kinds = length-set trail.turns (kind_of step) _ ∙ is.kinds;
  turns = λ kind within. by kind within (cases_eq kind (kind_of step));
}
  where
    inside : kind_of step < length trail.turns
    inside = subst (λ n. kind_of step < n) (sym is.kinds) below

    new : ℕ
    new = more (get_or trail.turns (kind_of step) 0) (turns_up_to from trail.last step.turn)

    here : get_or (set trail.turns (kind_of step) new) (kind_of step) 0
        ≡ turns_of kind_of (kind_of step) (longer from path step)
    here =
        get_or-set_same trail.turns (kind_of step) new 0 inside
        ∙ ap (λ (old : ℕ). more old (turns_up_to from trail.last step.turn))
        (is.turns (kind_of step) below)
        ∙ ap (λ (last : Option ℕ). more (turns_of kind_of (kind_of step) path)
        (turns_up_to from last step.turn)) is.last
        ∙ sym (own_kind kind_of (kind_of step) path step
        (turns_up_to from (last_turn path) step.turn) refl)

    by : (kind : ℕ) → kind < 715 → (kind ≡ kind_of step) ⊎ (kind ≡ kind_of step → ⊥)
        → get_or (set trail.turns (kind_of step) new) kind 0
        ≡ turns_of kind_of kind (longer from path step)
    by kind within (inl alike) =
        subst (λ k. get_or (set trail.turns (kind_of step) new) k 0
        ≡ turns_of kind_of k (longer from path step)) (sym alike) here
    by kind within (inr differs) =
        get_or-set_other trail.turns (kind_of step) kind new 0 differs ∙ is.turns kind within
        ∙ sym (other_kind kind_of kind path step (turns_up_to from (last_turn path) step.turn)
        (λ alike. differs (sym alike)))

-- its turns of the first kinds, as one list
pub trail_turns : (kind_of : Step → ℕ) (path : Path) (trail : Trail) (count : ℕ) → count ≤ 715
    → IsTrailOf kind_of path trail
    → map (λ kind. get_or trail.turns kind 0) (range_with_len 0 count)
    ≡ map (λ kind. turns_of kind_of kind path) (range_with_len 0 count)
trail_turns kind_of path trail count few is =
    let kept : ℕ → ℕ = λ kind. get_or trail.turns kind 0 in
    let turns : ℕ → ℕ = λ kind. turns_of kind_of kind path in
    let all : length (map kept (range_with_len 0 count)) ≡ count =
    length-map-range_with_len kept 0 count in
    let by_index : (index : ℕ) → index < length (map kept (range_with_len 0 count))
    → get_or (map kept (range_with_len 0 count)) index 0
    ≡ get_or (map turns (range_with_len 0 count)) index 0 = λ index within.
    let below : index < count = subst (λ n. index < n) all within in
    let here : 0 + index ≡ index = omega arith in
    get_or-map-range_with_len kept 0 count index index 0 below here
    ∙ is.turns index (omega (arith, below, few))
    ∙ sym (get_or-map-range_with_len turns 0 count index index 0 below here) in
    ext_get_or 0 (map kept (range_with_len 0 count)) (map turns (range_with_len 0 count))
    (all ∙ sym (length-map-range_with_len turns 0 count)) by_index

-- ---- the trails of all paths

-- the last one first
reversed_more : (steps : List Step) (step : Step)
    → reverse (steps ++ step ∷ []) ≡ step ∷ reverse steps
reversed_more steps step = reverse-append steps (step ∷ [])

-- trails that have the new one at each mark of the step, and are as they were at all others
pub trails_more : (from before : ℕ) (kind_of : Step → ℕ) (old trails : List Trail) (new : Trail)
    (steps : List Step) (step : Step) → KeptTrails from kind_of old steps → before < 1296
    → before ≡ mark_before (λ mark. last_turn (path_to from mark (reverse steps))) step
    → kind_of step < 715
    → new ≡ lengthened from (get_or old before NO_TRAIL) step.turn (kind_of step)
    → ((mark : ℕ) → mark < 1296 → is_marked mark step ≡ true → get_or trails mark NO_TRAIL ≡ new)
    → ((mark : ℕ) → mark < 1296 → is_marked mark step ≡ false
    → get_or trails mark NO_TRAIL ≡ get_or old mark NO_TRAIL)
    → KeptTrails from kind_of trails (steps ++ step ∷ [])
trails_more from before kind_of old trails new steps step kept below is kind made at_marks others =
    record {
      each = λ mark within.
          subst (λ all. IsTrailOf kind_of (path_to from mark all) (get_or trails mark NO_TRAIL))
          (sym (reversed_more steps step)) (by mark within (is_marked mark step) refl);
    }
  where
    earlier : List Step
    earlier = reverse steps

    before_it : ℕ
    before_it = mark_before (λ mark. last_turn (path_to from mark earlier)) step

    is_new : IsTrailOf kind_of (longer from (path_to from before_it earlier) step) new
    is_new =
        subst (λ (m : ℕ). IsTrailOf kind_of (longer from (path_to from m earlier) step) new) is
        (subst (λ (t : Trail). IsTrailOf kind_of (longer from (path_to from before earlier) step) t)
        (sym made)
        (trail_more kind_of from (path_to from before earlier) (get_or old before NO_TRAIL) step
        kind (kept.each before below)))

    by : (mark : ℕ) → mark < 1296 → (marked : Bool) → is_marked mark step ≡ marked
        → IsTrailOf kind_of (path_to from mark (step ∷ earlier)) (get_or trails mark NO_TRAIL)
    by mark within true marked =
        subst (λ (b : Bool). IsTrailOf kind_of
        (if b then longer from (path_to from before_it earlier) step else path_to from mark earlier)
        (get_or trails mark NO_TRAIL)) (sym marked)
        (subst (λ (t : Trail). IsTrailOf kind_of
        (longer from (path_to from before_it earlier) step) t)
        (sym (at_marks mark within marked)) is_new)
    by mark within false marked =
        subst (λ (b : Bool). IsTrailOf kind_of
        (if b then longer from (path_to from before_it earlier) step else path_to from mark earlier)
        (get_or trails mark NO_TRAIL)) (sym marked)
        (subst (λ (t : Trail). IsTrailOf kind_of (path_to from mark earlier) t)
        (sym (others mark within marked)) (kept.each mark within))

-- ---- the marks of a step

marked : (mark own : ℕ) (step : Step) (port : Option ℕ) (here : Bool)
    → step_mark step.node ≡ own → port_mark step.node step.deed ≡ port → (own == mark) ≡ here
    → is_marked mark step ≡ (here || option_map_or (λ other. other == mark) port false)
marked mark own step port here is_own is_port is =
    ap (λ (m : ℕ). (m == mark)
    || option_map_or (λ other. other == mark) (port_mark step.node step.deed) false) is_own
    ∙ ap (λ (p : Option ℕ). (own == mark) || option_map_or (λ other. other == mark) p false) is_port
    ∙ ap (λ (b : Bool). b || option_map_or (λ other. other == mark) port false) is

true_not_false : (b : Bool) → b ≡ true → b ≡ false → ⊥
true_not_false b marks_it marks_not = false≢true (sym marks_not ∙ marks_it)

-- a list with one item replaced twice
replaced : (old : List Trail) (own mark : ℕ) (first new : Trail) → (mark ≡ own → ⊥)
    → get_or (set (set old own first) own new) mark NO_TRAIL ≡ get_or old mark NO_TRAIL
replaced old own mark first new differs =
    get_or-set_other (set old own first) own mark new NO_TRAIL differs
    ∙ get_or-set_other old own mark first NO_TRAIL differs

replaced_own : (old : List Trail) (own : ℕ) (first new : Trail) → own < 1296
    → length old ≡ 1296 → get_or (set (set old own first) own new) own NO_TRAIL ≡ new
replaced_own old own first new below all =
    get_or-set_same (set old own first) own new NO_TRAIL
    (subst (λ n. own < n) (sym (length-set old own first ∙ all)) below)

-- the new trail, as it was made in place
pub trail_made : (from own_from own before index kind : ℕ) (old first : List Trail)
    (other at new : Trail) (turn : ℕ) → own < 1296 → length old ≡ 1296
    → first ≡ set old own (get_or old before NO_TRAIL) → at ≡ get_or first own other
    → own_from ≡ from → index ≡ kind → new ≡ lengthened own_from at turn index
    → new ≡ lengthened from (get_or old before NO_TRAIL) turn kind
trail_made from own_from own before index kind old first other at new turn below all copied found
    same alike made =
    made ∙ ap (λ f. lengthened f at turn index) same
    ∙ ap (λ (t : Trail). lengthened from t turn index) found_there
    ∙ ap (λ k. lengthened from (get_or old before NO_TRAIL) turn k) alike
  where
    within : own < length first
    within =
        subst (λ n. own < n) (sym (ap (λ (l : List Trail). length l) copied
        ∙ length-set old own (get_or old before NO_TRAIL) ∙ all)) below

    found_there : at ≡ get_or old before NO_TRAIL
    found_there =
        found ∙ get_or_default first own other NO_TRAIL within
        ∙ ap (λ l. get_or l own NO_TRAIL) copied
        ∙ get_or-set_same old own (get_or old before NO_TRAIL) NO_TRAIL
        (subst (λ n. own < n) (sym all) below)

-- a step with one mark
pub trails_own : (from own before : ℕ) (kind_of : Step → ℕ) (old : List Trail)
    (first new : Trail) (steps : List Step) (step : Step) → KeptTrails from kind_of old steps
    → length old ≡ 1296 → own < 1296 → step_mark step.node ≡ own
    → port_mark step.node step.deed ≡ None → before < 1296
    → before ≡ mark_before (λ mark. last_turn (path_to from mark (reverse steps))) step
    → kind_of step < 715
    → new ≡ lengthened from (get_or old before NO_TRAIL) step.turn (kind_of step)
    → KeptTrails from kind_of (set (set old own first) own new) (steps ++ step ∷ [])
trails_own from own before kind_of old first new steps step kept all below is_own no_port in_all is
    kind made =
    trails_more from before kind_of old (set (set old own first) own new) new steps step kept
    in_all is kind made at_marks others
  where
    at_marks : (mark : ℕ) → mark < 1296 → is_marked mark step ≡ true
        → get_or (set (set old own first) own new) mark NO_TRAIL ≡ new
    at_marks mark within marks_it = by (cases_eq mark own)
      where
        by : (mark ≡ own) ⊎ (mark ≡ own → ⊥)
            → get_or (set (set old own first) own new) mark NO_TRAIL ≡ new
        by (inl alike) =
            subst (λ (m : ℕ). get_or (set (set old own first) own new) m NO_TRAIL ≡ new)
            (sym alike) (replaced_own old own first new below all)
        by (inr differs) =
            absurd (true_not_false (is_marked mark step) marks_it
            (marked mark own step None false is_own no_port
            (ne_eqb own mark (λ alike. differs (sym alike)))))

    others : (mark : ℕ) → mark < 1296 → is_marked mark step ≡ false
        → get_or (set (set old own first) own new) mark NO_TRAIL ≡ get_or old mark NO_TRAIL
    others mark within marks_not = replaced old own mark first new (λ alike.
        true_not_false (is_marked mark step)
        (marked mark own step None true is_own no_port (eq-eqb own mark (sym alike))) marks_not)

-- a step with two marks
pub trails_port : (from own port before : ℕ) (kind_of : Step → ℕ) (old : List Trail)
    (first new : Trail) (steps : List Step) (step : Step) → KeptTrails from kind_of old steps
    → length old ≡ 1296 → own < 1296 → step_mark step.node ≡ own → port < 1296
    → port_mark step.node step.deed ≡ Some port → before < 1296
    → before ≡ mark_before (λ mark. last_turn (path_to from mark (reverse steps))) step
    → kind_of step < 715
    → new ≡ lengthened from (get_or old before NO_TRAIL) step.turn (kind_of step)
    → KeptTrails from kind_of (set (set (set old own first) own new) port
    (get_or (set (set old own first) own new) own NO_TRAIL)) (steps ++ step ∷ [])
trails_port from own port before kind_of old first new steps step kept all below is_own within_port
    is_port in_all is kind made =
    trails_more from before kind_of old (set both port (get_or both own NO_TRAIL)) new steps step
    kept in_all is kind made at_marks others
  where
    both : List Trail
    both = set (set old own first) own new

    length_both : length both ≡ 1296
    length_both = length-set (set old own first) own new ∙ length-set old own first ∙ all

    new_there : get_or (set both port (get_or both own NO_TRAIL)) port NO_TRAIL ≡ new
    new_there =
        get_or-set_same both port (get_or both own NO_TRAIL) NO_TRAIL
        (subst (λ n. port < n) (sym length_both) within_port)
        ∙ replaced_own old own first new below all

    at_marks : (mark : ℕ) → mark < 1296 → is_marked mark step ≡ true
        → get_or (set both port (get_or both own NO_TRAIL)) mark NO_TRAIL ≡ new
    at_marks mark within marks_it = by (cases_eq mark port) (cases_eq mark own)
      where
        by : (mark ≡ port) ⊎ (mark ≡ port → ⊥) → (mark ≡ own) ⊎ (mark ≡ own → ⊥)
            → get_or (set both port (get_or both own NO_TRAIL)) mark NO_TRAIL ≡ new
        by (inl alike) either =
            subst (λ (m : ℕ). get_or (set both port (get_or both own NO_TRAIL)) m NO_TRAIL ≡ new)
            (sym alike) new_there
        by (inr differs) (inl alike) =
            get_or-set_other both port mark (get_or both own NO_TRAIL) NO_TRAIL differs
            ∙ subst (λ (m : ℕ). get_or both m NO_TRAIL ≡ new) (sym alike)
            (replaced_own old own first new below all)
        by (inr differs) (inr other) =
            absurd (true_not_false (is_marked mark step) marks_it
            (marked mark own step (Some port) false is_own is_port
            (ne_eqb own mark (λ alike. other (sym alike)))
            ∙ ne_eqb port mark (λ alike. differs (sym alike))))

    others : (mark : ℕ) → mark < 1296 → is_marked mark step ≡ false
        → get_or (set both port (get_or both own NO_TRAIL)) mark NO_TRAIL
        ≡ get_or old mark NO_TRAIL
    others mark within marks_not =
        get_or-set_other both port mark (get_or both own NO_TRAIL) NO_TRAIL (λ alike.
        true_not_false (is_marked mark step)
        (marked_port mark (own == mark) refl (eq-eqb port mark (sym alike))) marks_not)
        ∙ replaced old own mark first new (λ alike.
        true_not_false (is_marked mark step)
        (marked mark own step (Some port) true is_own is_port (eq-eqb own mark (sym alike)))
        marks_not)
      where
        or_true : (b : Bool) → (b || true) ≡ true
        or_true true = refl
        or_true false = refl

        marked_port : (mark : ℕ) (here : Bool) → (own == mark) ≡ here → (port == mark) ≡ true
            → is_marked mark step ≡ true
        marked_port mark here is_here there =
            marked mark own step (Some port) here is_own is_port is_here
            ∙ ap (λ (b : Bool). here || b) there ∙ or_true here

-- no steps
pub trails_none : (from : ℕ) (kind_of : Step → ℕ) (trails : List Trail)
    → trails ≡ replicate 1296 NO_TRAIL → KeptTrails from kind_of trails []
trails_none from kind_of trails is = record {
  each = λ mark below.
      subst (λ (t : Trail). IsTrailOf kind_of [] t)
      (sym (ap (λ l. get_or l mark NO_TRAIL) is
      ∙ get_or-replicate 1296 mark NO_TRAIL NO_TRAIL below)) none;
}
  where
    none : IsTrailOf kind_of [] NO_TRAIL
    none = record {
      last = refl;
      kinds = refl;
      turns = λ kind below. get_or-replicate 715 kind 0 0 below;
    }
