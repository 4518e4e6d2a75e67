-- The trails of paths, behind one step more.
use Rattle.std.proofs.Common.{◌≡◌, ◌∙◌, ℕ, zero, suc, ◌+◌, ◌-◌, ◌/◌, ◌<◌, ◌≤◌, ◌==◌, ◌⊎◌, inl, inr, Bool, true, false, List, [], ◌∷◌, ◌++◌, ap, ap₂, arith, get_or, length, length-set, map, refl, set, subst, sym}
use Rattle.std.specs.Prelude.{◌||◌, Option, Some, None, replicate, reverse, if◌then◌else◌}
use Rattle.std.specs.List.{range_with_len}
use Rattle.std.specs.Option.{option_map_or, option_or}
use Rattle.std.proofs.Math.Nat.{div-lt_iff_lt-mul}
use Rattle.std.proofs.lemmas.Bool.{cases_eq, eq-eqb, ne_eqb}
use Rattle.std.proofs.lemmas.List.{get_or-replicate, get_or-set_other, get_or-set_same}
use Rattle.ga_observe.specs.declared.step.Step.{Step}
use Rattle.ga_profile.specs.declared.window.Window.{Window}
use Rattle.ga_profile.specs.Marks.{is_marked, mark_before, port_mark, step_mark}
use Rattle.ga_profile.specs.Path.{Path, last_turn, longer, node_index, path_to}
use Rattle.ga_profile.specs.Window.{length_of}
use Rattle.ga_report.specs.declared.trail.Trail.{Trail}
use Rattle.ga_report.specs.Columns.{columns_of, stride_of}
use Rattle.ga_report.specs.Holder.{column_at, held, last_in}
use Rattle.ga_report.specs.inner.Trails.{IsTrailOf, KeptTrails, NO_TRAIL, lengthened, with_node}
use Rattle.ga_report.proofs.Transferring.{reversed_more}

-- ---- the trail of one path

-- a column with another node
node_more : (nodes : List (Option ℕ)) (at : Option ℕ) (index column : ℕ) (old : Option ℕ)
    → length nodes ≡ 600 → column < 600 → get_or nodes column None ≡ old
    → get_or (with_node nodes at index) column None
    ≡ (if option_map_or (λ other. other == column) at false then Some index else old)
node_more nodes None index column old all within is = is
node_more nodes (Some at) index column old all within is = by (cases_eq column at)
  where
    by : (column ≡ at) ⊎ (column ≡ at → ⊥)
        → get_or (set nodes at (Some index)) column None
        ≡ (if at == column then Some index else old)
    by (inl same) =
        subst (λ c. get_or (set nodes at (Some index)) c None ≡ Some index) (sym same)
        (get_or-set_same nodes at (Some index) None
        (subst (λ n. at < n) (sym all) (subst (λ c. c < 600) same within)))
        ∙ sym (ap (λ (b : Bool). if b then Some index else old) (eq-eqb at column (sym same)))
    by (inr differs) =
        get_or-set_other nodes at column (Some index) None differs ∙ is
        ∙ sym (ap (λ (b : Bool). if b then Some index else old)
        (ne_eqb at column (λ same. differs (sym same))))

length_with : (nodes : List (Option ℕ)) (at : Option ℕ) (index : ℕ)
    → length (with_node nodes at index) ≡ length nodes
length_with nodes None index = refl
length_with nodes (Some at) index = length-set nodes at (Some index)

trail_more : (from : ℕ) (part : Window) (path : Path) (trail : Trail) (step : Step)
    → IsTrailOf part path trail
    → IsTrailOf part (longer from path step) (lengthened part trail step)
trail_more from part path trail step is = record {
  last = refl;
  all = length_with trail.nodes (column_at part step.turn) (node_index step) ∙ is.all;
  nodes = λ column within.
      node_more trail.nodes (column_at part step.turn) (node_index step) column
      (last_in part column path) is.all within (is.nodes column within);
}

-- ---- the trails of all paths

-- no steps
pub trails_none : (from : ℕ) (part : Window) (trails : List Trail)
    → trails ≡ replicate 1296 NO_TRAIL → KeptTrails from part trails []
trails_none from part trails is = record {
  each = λ mark within.
      let none : get_or trails mark NO_TRAIL ≡ NO_TRAIL =
      ap (λ l. get_or l mark NO_TRAIL) is ∙ get_or-replicate 1296 mark NO_TRAIL NO_TRAIL within in
      subst (λ (trail : Trail). IsTrailOf part [] trail) (sym none) (record {
        last = refl;
        all = refl;
        nodes = λ column below. get_or-replicate 600 column None None below;
      });
}

-- one step more, whose marks have the new trail
pub trails_more : (from before : ℕ) (part : Window) (old trails : List Trail) (new : Trail)
    (steps : List Step) (step : Step) → KeptTrails from part old steps → before < 1296
    → before ≡ mark_before (λ mark. last_turn (path_to from mark (reverse steps))) step
    → new ≡ lengthened part (get_or old before NO_TRAIL) step
    → ((mark : ℕ) → mark < 1296 → get_or trails mark NO_TRAIL
    ≡ (if is_marked mark step then new else get_or old mark NO_TRAIL))
    → KeptTrails from part trails (steps ++ step ∷ [])
trails_more from before part old trails new steps step kept below is made put = record {
  each = λ mark within.
      subst (λ all. IsTrailOf part (path_to from mark all) (get_or trails mark NO_TRAIL))
      (sym (reversed_more steps step))
      (subst (λ (trail : Trail). IsTrailOf part (path_to from mark (step ∷ earlier)) trail)
      (sym (put mark within)) (by mark within (is_marked mark step)));
}
  where
    earlier : List Step
    earlier = reverse steps

    before_it : ℕ
    before_it = mark_before (λ mark. last_turn (path_to from mark earlier)) step

    is_new : IsTrailOf part (longer from (path_to from before_it earlier) step) new
    is_new =
        subst (λ (m : ℕ). IsTrailOf part (longer from (path_to from m earlier) step) new) is
        (subst (λ (t : Trail). IsTrailOf part (longer from (path_to from before earlier) step) t)
        (sym made)
        (trail_more from part (path_to from before earlier) (get_or old before NO_TRAIL) step
        (kept.each before below)))

    by : (mark : ℕ) → mark < 1296 → (b : Bool)
        → IsTrailOf part (if b then longer from (path_to from before_it earlier) step
        else path_to from mark earlier) (if b then new else get_or old mark NO_TRAIL)
    by mark within true = is_new
    by mark within false = kept.each mark within

-- ---- the nodes that have a path

-- by the nodes that are kept for the columns
pub held_same : (first second : ℕ → Option ℕ) (count : ℕ)
    → ((column : ℕ) → column < count → first column ≡ second column)
    → held first count ≡ held second count
held_same first second zero each = refl
held_same first second (suc count) each =
    ap (λ here. option_or here (held first count)) (each count (omega arith))
    ∙ ap (λ before. option_or (second count) before)
    (held_same first second count (λ column below. each column (omega (arith, below))))

-- two lists of as many numbers
map_same : {A : Type 0} (f g : ℕ → A) (a n : ℕ) → ((i : ℕ) → i < a + n → f i ≡ g i)
    → map f (range_with_len a n) ≡ map g (range_with_len a n)
map_same f g a zero each = refl
map_same f g a (suc n) each =
    ap₂ (λ x l. x ∷ l) (each a (omega arith))
    (map_same f g (a + 1) n (λ i within. each i (omega (arith, within))))

pub held_all : (part : Window) (path : Path) (trail : Trail) (columns : ℕ) → columns ≤ 600
    → IsTrailOf part path trail
    → map (λ column. held (λ at. get_or trail.nodes at None) (column + 1))
    (range_with_len 0 columns)
    ≡ map (λ column. held (λ at. last_in part at path) (suc column)) (range_with_len 0 columns)
held_all part path trail columns few is =
    let kept : ℕ → Option ℕ = λ at. get_or trail.nodes at None in
    let last : ℕ → Option ℕ = λ at. last_in part at path in
    map_same (λ column. held kept (column + 1)) (λ column. held last (suc column)) 0 columns
    (λ column within.
    let one : column + 1 ≡ suc column = omega arith in
    ap (held kept) one
    ∙ held_same kept last (suc column)
    (λ at below. is.nodes at (omega (arith, below, within, few))))

-- ---- columns

pub within_columns : (window : Window) (offset : ℕ) → offset < length_of window
    → offset / stride_of window < 600
within_columns window offset below =
    let some : 0 < stride_of window = omega arith in
    (div-lt_iff_lt-mul {k = stride_of window} {x = offset} {y = 600} some).1 (omega arith)

pub few_columns : (window : Window) → columns_of window ≤ 600
few_columns window =
    let some : 0 < stride_of window = omega arith in
    let turns = length_of window + (stride_of window - 1) in
    let few : turns / stride_of window < 601 =
    (div-lt_iff_lt-mul {k = stride_of window} {x = turns} {y = 601} some).1 (omega arith) in
    omega arith

-- ---- marks

-- a step has its own mark, and that of its post or take
pub marked : (mark own : ℕ) (step : Step) (port : Option ℕ) → step_mark step.node ≡ own
    → port_mark step.node step.deed ≡ port
    → is_marked mark step
    ≡ ((own == mark) || option_map_or (λ other. other == mark) port false)
marked mark own step port is_own is_port =
    ap₂ (λ m (p : Option ℕ). (m == mark) || option_map_or (λ other. other == mark) p false) is_own
    is_port

-- a trail in the place of the one with a mark
pub put_one : (old : List Trail) (own mark : ℕ) (new : Trail) → length old ≡ 1296 → own < 1296
    → get_or (set old own new) mark NO_TRAIL
    ≡ (if own == mark then new else get_or old mark NO_TRAIL)
put_one old own mark new all below = by (cases_eq mark own)
  where
    by : (mark ≡ own) ⊎ (mark ≡ own → ⊥)
        → get_or (set old own new) mark NO_TRAIL
        ≡ (if own == mark then new else get_or old mark NO_TRAIL)
    by (inl same) =
        subst (λ m. get_or (set old own new) m NO_TRAIL ≡ new) (sym same)
        (get_or-set_same old own new NO_TRAIL (subst (λ n. own < n) (sym all) below))
        ∙ sym (ap (λ (b : Bool). if b then new else get_or old mark NO_TRAIL)
        (eq-eqb own mark (sym same)))
    by (inr differs) =
        get_or-set_other old own mark new NO_TRAIL differs
        ∙ sym (ap (λ (b : Bool). if b then new else get_or old mark NO_TRAIL)
        (ne_eqb own mark (λ same. differs (sym same))))

-- and of two, one after the other
pub either_mark : (one other : Bool) (new old : Trail)
    → (if other then new else if one then new else old) ≡ (if one || other then new else old)
either_mark true true new old = refl
either_mark true false new old = refl
either_mark false true new old = refl
either_mark false false new old = refl

pub or_none : (b : Bool) → (b || false) ≡ b
or_none true = refl
or_none false = refl
