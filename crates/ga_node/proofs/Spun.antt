-- Whether a node spins, and from which state on, by own steps.
use Rattle.std.proofs.Common.{◌≡◌, ℕ, zero, suc, ◌+◌, ◌*◌, ◌-◌, ◌≤◌, ◌<◌, ◌==◌, ◌⊎◌, inl, inr, Bool, true, false, List, [], ◌∷◌, Option, Some, None, get_or, refl, sym, ap, ◌∙◌, subst, arith}
use Rattle.std.specs.Bool.{Decides}
use Rattle.std.specs.Cmp.Lexicographic.{pointwise}
use Rattle.std.specs.Prelude.{◌^◌, ◌||◌, IfNone, IfSome, if◌then◌else◌, is_some}
use Rattle.std.proofs.lemmas.Bool.{cases_lt, false≢true, ne_eqb}
use Rattle.std.proofs.lemmas.Bool.Decides.{Decides-and, Decides-eqb, Decides-like, Decides-or}
use Rattle.std.proofs.lemmas.Slice.Eq.{slice_eq-Decides}
use Rattle.ga_place.specs.declared.side.Side.{Side}
use Rattle.ga_place.specs.declared.side.Side.TheVariants as side
use Rattle.ga_node.specs.State.{State}
use Rattle.ga_node.specs.Need.{is_own, need_of, wants}
use Rattle.ga_node.specs.Running.{RunsOwn, own_run}
use Rattle.ga_node.specs.Slot.{step, step_if_own}
use Rattle.ga_node.specs.Spins.{OwnFor, Spins, SpinsAfter, WorksFor, bit_of, comes_back, held_numbers, is_again, is_spinning, numbers_of, place_number, post_numbers, side_number, uncounted}
use Rattle.ga_node.specs.inner.Ahead.{FirstAgain, Repeats}
use Rattle.ga_node.specs.declared.need.Need.{Need}
use Rattle.ga_node.specs.declared.need.Need.TheVariants as need
use Rattle.ga_node.specs.declared.need.Stop.TheVariants.{Counted}
use Rattle.ga_node.specs.declared.place.Place.{Place}
use Rattle.ga_node.specs.declared.place.Place.TheVariants as place
use Rattle.ga_node.proofs.OwnSteps.{own_is, own_run-more}
use Rattle.ga_node.proofs.Uncounted.{spins_next, spins_own, step_same, wants_same}

-- ---- the numbers of a state determine it

abbrev place_at : ℕ → Place
place_at n =
    get_or (place.Fetch ∷ place.Slot0 ∷ place.Slot1 ∷ place.Slot2 ∷ place.Slot3 ∷ place.Completion
    ∷ place.Transfer ∷ place.Count ∷ place.Body ∷ []) n place.Fetch

same_place : (at : Place) → place_at (place_number at) ≡ at
same_place place.Fetch = refl
same_place place.Slot0 = refl
same_place place.Slot1 = refl
same_place place.Slot2 = refl
same_place place.Slot3 = refl
same_place place.Completion = refl
same_place place.Transfer = refl
same_place place.Count = refl
same_place place.Body = refl

abbrev side_at : ℕ → Side
side_at n = get_or (side.Right ∷ side.Down ∷ side.Left ∷ side.Up ∷ []) n side.Right

same_side : (at : Side) → side_at (side_number at) ≡ at
same_side side.Right = refl
same_side side.Down = refl
same_side side.Left = refl
same_side side.Up = refl

abbrev bit_at : ℕ → Bool
bit_at n = get_or (false ∷ true ∷ []) n false

same_bit : (b : Bool) → bit_at (bit_of b) ≡ b
same_bit false = refl
same_bit true = refl

abbrev post_at : List ℕ → Option (Side × ℕ)
post_at (at ∷ word ∷ []) = Some (side_at at, word)
post_at numbers = None

same_post : (post : Option (Side × ℕ)) → post_at (post_numbers post) ≡ post
same_post None = refl
same_post (Some post) = ap (λ at. Some (at, post.1)) (same_side post.0)

abbrev held_at : List ℕ → Option ℕ
held_at (word ∷ []) = Some word
held_at numbers = None

same_held : (held : Option ℕ) → held_at (held_numbers held) ≡ held
same_held None = refl
same_held (Some word) = refl

abbrev state_at : List (List ℕ) → State
state_at numbers =
    let one : ℕ → ℕ = λ index. get_or (get_or numbers 0 []) index 0 in record {
      node = one 0;
      p = one 1;
      a = one 2;
      b = one 3;
      r = one 4;
      s = one 5;
      t = one 6;
      io = one 7;
      carry = bit_at (one 8);
      word = one 9;
      place = place_at (one 10);
      loader = record {
        completion = one 11;
        transfer = one 12;
        left = one 13;
        held = held_at (get_or numbers 5 []);
      };
      data_stack = get_or numbers 1 [];
      return_stack = get_or numbers 2 [];
      ram = get_or numbers 3 [];
      posted = post_at (get_or numbers 4 []);
      steps = 0;
    }

same_state : (state : State) → state_at (numbers_of state) ≡ uncounted state
same_state state =
    ap (λ b. record (uncounted state) {
      carry = b;
      place = place_at (place_number state.place);
      posted = post_at (post_numbers state.posted);
      loader = record state.loader { held = held_at (held_numbers state.loader.held) };
    }) (same_bit state.carry)
    ∙ ap (λ at. record (uncounted state) {
      place = at;
      posted = post_at (post_numbers state.posted);
      loader = record state.loader { held = held_at (held_numbers state.loader.held) };
    }) (same_place state.place)
    ∙ ap (λ post. record (uncounted state) {
      posted = post;
      loader = record state.loader { held = held_at (held_numbers state.loader.held) };
    }) (same_post state.posted)
    ∙ ap (λ held. record (uncounted state) { loader = record state.loader { held = held } })
    (same_held state.loader.held)

pub again_Decides : (state other : State)
    → Decides (is_again state other) (uncounted state ≡ uncounted other)
again_Decides state other =
    Decides-like (is_again state other)
    (λ same. sym (same_state state) ∙ ap state_at same ∙ same_state other)
    (λ same. ap numbers_of same)
    (slice_eq-Decides (λ one two. slice_eq-Decides Decides-eqb one two
    (pointwise (λ a b. a == b) one two) refl) (numbers_of state) (numbers_of other)
    (is_again state other) refl)

own_Decides : (needs : Need) → Decides (is_own needs) (needs ≡ need.Own)
own_Decides needs = (own_is needs, λ own. ap is_own own)

-- ---- own steps that lead back

record Comes (most : ℕ) (first state : State) : Type 0 where
  steps : ℕ
  some : 1 ≤ steps
  few : steps ≤ most
  own : OwnFor steps state
  back : uncounted (own_run steps state) ≡ uncounted first

own_first : (steps : ℕ) (state : State) → wants state ≡ need.Own → OwnFor steps (step state None)
    → OwnFor (suc steps) state
own_first steps state own more zero below = own
own_first steps state own more (suc k) below = more k (omega (arith, below))

comes_first : (most : ℕ) (first state : State)
    → (wants state ≡ need.Own)
    × ((uncounted (step state None) ≡ uncounted first) ⊎ Comes most first (step state None))
    → Comes (suc most) first state
comes_first most first state (own, inl back) = record {
  steps = 1;
  some = omega arith;
  few = omega arith;
  own = own_first 0 state own (λ k below. absurd (omega (arith, below)));
  back = back;
}
comes_first most first state (own, inr more) = record {
  steps = suc more.steps;
  some = omega arith;
  few = let few = more.few in omega arith;
  own = own_first more.steps state own more.own;
  back = more.back;
}

comes_next : (most : ℕ) (first state : State) → Comes (suc most) first state
    → (wants state ≡ need.Own)
    × ((uncounted (step state None) ≡ uncounted first) ⊎ Comes most first (step state None))
comes_next most first state comes =
    (comes.own 0 comes.some, by comes.steps comes.some comes.few comes.own comes.back)
  where
    by : (steps : ℕ) → 1 ≤ steps → steps ≤ suc most → OwnFor steps state
        → uncounted (own_run steps state) ≡ uncounted first
        → (uncounted (step state None) ≡ uncounted first) ⊎ Comes most first (step state None)
    by zero some few own back = absurd (omega (arith, some))
    by (suc zero) some few own back = inl back
    by (suc (suc k)) some few own back = inr (record {
      steps = suc k;
      some = omega arith;
      few = omega (arith, few);
      own = λ i below. own (suc i) (omega (arith, below));
      back = back;
    })

comes_Decides : (most : ℕ) (first state : State)
    → Decides (comes_back most first state) (Comes most first state)
comes_Decides zero first state = (
  λ e. absurd (false≢true e),
  λ comes. let some = comes.some in let few = comes.few in absurd (omega arith),
)
comes_Decides (suc most) first state =
    Decides-like (comes_back (suc most) first state) (comes_first most first state)
    (comes_next most first state)
    (Decides-and (is_own (wants state))
    (is_again (step state None) first || comes_back most first (step state None))
    (own_Decides (wants state))
    (Decides-or (is_again (step state None) first) (comes_back most first (step state None))
    (again_Decides (step state None) first) (comes_Decides most first (step state None))))

-- a node spins with a period of at most so many steps
abbrev Within : ℕ → State → Type 0
Within most state = (spins : Spins state) × (spins.period ≤ most)

within_Decides : (most : ℕ) (state : State)
    → Decides (comes_back most state state) (Within most state)
within_Decides most state =
    Decides-like (comes_back most state state)
    (λ comes. (
      record { period = comes.steps; some = comes.some; own = comes.own; back = comes.back },
      comes.few,
    ))
    (λ within. record {
      steps = within.0.period;
      some = within.0.some;
      few = within.1;
      own = within.0.own;
      back = within.0.back;
    })
    (comes_Decides most state state)

pub spinning_Decides : (state : State)
    → Decides (is_spinning state) (Within 4 state)
unfolding is_spinning
spinning_Decides state = within_Decides 4 state

-- ---- own steps and the number of steps

pub own_run-add : (a b : ℕ) (state : State) → own_run (a + b) state ≡ own_run b (own_run a state)
own_run-add zero b state =
    let sum : zero + b ≡ b = omega arith in ap (λ n. own_run n state) sum
own_run-add (suc a) b state =
    let sum : suc a + b ≡ suc (a + b) = omega arith in
    ap (λ n. own_run n state) sum ∙ own_run-add a b (step state None)

pub run_same : (steps : ℕ) (one two : State) → uncounted one ≡ uncounted two
    → uncounted (own_run steps one) ≡ uncounted (own_run steps two)
run_same zero one two same = same
run_same (suc steps) one two same =
    run_same steps (step one None) (step two None) (step_same one two None same)

-- states that are equal but for the number of steps spin alike
abbrev spins_same : (one two : State) → uncounted one ≡ uncounted two → Spins one → Spins two
spins_same one two same spins = record {
  period = spins.period;
  some = spins.some;
  own = λ steps below. sym (wants_same (own_run steps one) (own_run steps two)
      (run_same steps one two same)) ∙ spins.own steps below;
  back = sym (run_same spins.period one two same) ∙ spins.back ∙ same;
}

within_same : (most : ℕ) (one two : State) → uncounted one ≡ uncounted two → Within most one
    → Within most two
within_same most one two same within = (spins_same one two same within.0, within.1)

-- a node that spins still spins after own steps, with the same period
within_next : (most : ℕ) (state : State) → Within most state → Within most (step state None)
unfolding spins_next
within_next most state within = (spins_next state within.0, within.1)

within_on : (most steps : ℕ) (state : State) → Within most state → Within most (own_run steps state)
within_on most zero state within = within
within_on most (suc steps) state within =
    within_on most steps (step state None) (within_next most state within)

-- and all its steps are its own
all_own : (steps : ℕ) (state : State) → Spins state → wants (own_run steps state) ≡ need.Own
all_own zero state spins = spins_own state spins
all_own (suc steps) state spins = all_own steps (step state None) (spins_next state spins)

-- some periods lead back
rounds : (times : ℕ) (state : State) (spins : Spins state)
    → uncounted (own_run (times * spins.period) state) ≡ uncounted state
rounds zero state spins =
    let none : zero * spins.period ≡ 0 = omega arith in
    ap (λ n. uncounted (own_run n state)) none
rounds (suc times) state spins =
    let sum : suc times * spins.period ≡ spins.period + times * spins.period = omega arith in
    ap (λ n. uncounted (own_run n state)) sum
    ∙ ap uncounted (own_run-add spins.period (times * spins.period) state)
    ∙ run_same (times * spins.period) (own_run spins.period state) state spins.back
    ∙ rounds times state spins

-- ---- from which state on a node spins

module _ (most far : ℕ) (state : State) (own : OwnFor far state) where
  behind : (steps : ℕ) → steps ≤ far
      → own_run (far - steps) (own_run steps state) ≡ own_run far state
  behind steps few =
      let sum : steps + (far - steps) ≡ far = omega (arith, few) in
      sym (own_run-add steps (far - steps) state) ∙ ap (λ n. own_run n state) sum

  -- none of the states before a step that isn't the node's own
  none_before_port : (wants (own_run far state) ≡ need.Own → ⊥) → (steps : ℕ) → steps ≤ far
      → Within most (own_run steps state) → ⊥
  none_before_port port steps few within =
      port (ap wants (sym (behind steps few))
      ∙ all_own (far - steps) (own_run steps state) within.0)

  -- none of the states before one that doesn't spin
  none_before : (Within most (own_run far state) → ⊥) → (steps : ℕ) → steps ≤ far
      → Within most (own_run steps state) → ⊥
  none_before not steps few within =
      not (subst (Within most) (behind steps few)
      (within_on most (far - steps) (own_run steps state) within))

  module _ (spins : Spins (own_run far state)) (short : spins.period ≤ most) where
    always : (steps : ℕ) → wants (own_run steps state) ≡ need.Own
    always steps = by (cases_lt steps far)
      where
        by : (steps < far) ⊎ (far ≤ steps) → wants (own_run steps state) ≡ need.Own
        by (inl early) = own steps early
        by (inr late) =
            let rest : steps ≡ far + (steps - far) = omega (arith, late) in
            ap (λ n. wants (own_run n state)) rest
            ∙ ap wants (own_run-add far (steps - far) state)
            ∙ all_own (steps - far) (own_run far state) spins

    -- a state that comes again a period later spins
    repeats_within : (steps : ℕ) → Repeats state spins.period steps
        → Within most (own_run steps state)
    repeats_within steps back = (
      record {
        period = spins.period;
        some = spins.some;
        own = λ k below. ap wants (sym (own_run-add steps k state)) ∙ always (steps + k);
        back = ap uncounted (sym (own_run-add steps spins.period state)) ∙ back;
      },
      short,
    )

    -- the steps from far on to a state that is as one before it
    abbrev later : (steps : ℕ) → Spins (own_run steps state) → ℕ
    later steps it = steps + far * it.period - far

    far_enough : (n period : ℕ) → 1 ≤ period → n ≤ n * period
    far_enough zero period some = omega arith
    far_enough (suc n) period some =
        let more = far_enough n period some in
        let sum : suc n * period ≡ period + n * period = omega arith in omega arith

    -- and one that spins comes again a period later
    within_repeats : (steps : ℕ) → Within most (own_run steps state)
        → Repeats state spins.period steps
    within_repeats steps within =
        let sum : later steps within.0 + spins.period ≡ spins.period + later steps within.0 =
        omega arith in
        ap uncounted (own_run-add steps spins.period state)
        ∙ run_same spins.period (own_run steps state)
        (own_run (later steps within.0) (own_run far state)) same
        ∙ ap uncounted (sym (own_run-add (later steps within.0) spins.period (own_run far state)))
        ∙ ap (λ n. uncounted (own_run n (own_run far state))) sum
        ∙ ap uncounted (own_run-add spins.period (later steps within.0) (own_run far state))
        ∙ run_same (later steps within.0) (own_run spins.period (own_run far state))
        (own_run far state) spins.back
        ∙ sym same
      where
        same : uncounted (own_run steps state)
            ≡ uncounted (own_run (later steps within.0) (own_run far state))
        same =
            let enough = far_enough far within.0.period within.0.some in
            let sum : steps + far * within.0.period ≡ far + later steps within.0 =
            omega (arith, enough) in
            sym (rounds far (own_run steps state) within.0)
            ∙ ap uncounted (sym (own_run-add steps (far * within.0.period) state))
            ∙ ap (λ n. uncounted (own_run n state)) sum
            ∙ ap uncounted (own_run-add far (later steps within.0) state)

-- ---- own steps of a copy

counted_run : (steps : ℕ) (state : State) → (own_run steps state).steps ≡ state.steps + steps
unfolding step
counted_run zero state = omega arith
counted_run (suc steps) state =
    let more = counted_run steps (step state None) in omega (arith, more)

-- below the limit of its count a node needs what it wants
needs_wanted : (state : State) → state.steps < 2 ^ 64 - 1 → need_of state ≡ wants state
unfolding need_of
needs_wanted state few =
    ap (λ b. if b then need.Stopped Counted else wants state)
    (ne_eqb state.steps (2 ^ 64 - 1) (λ same. omega (arith, few, same)))

wanted_own : (at_limit : Bool) (wanted : Need)
    → (if at_limit then need.Stopped Counted else wanted) ≡ need.Own → wanted ≡ need.Own
wanted_own true wanted own = let own' : need.Stopped Counted ≡ need.Own = own in cc
wanted_own false wanted own = own

wants_own : (state : State) → need_of state ≡ need.Own → wants state ≡ need.Own
unfolding need_of
wants_own state own = wanted_own (state.steps == 2 ^ 64 - 1) (wants state) own

or_true : (b : Bool) → b || true ≡ true
or_true true = refl
or_true false = refl

pub runs_own : (steps : ℕ) (state : State) → RunsOwn true steps state → OwnFor steps state
runs_own zero state runs k below = absurd (omega (arith, below))
runs_own (suc steps) state runs zero below = wants_own state runs.0.0
runs_own (suc steps) state runs (suc k) below =
    runs_own steps (step state None) runs.1 k (omega (arith, below))

pub own_runs : (steps : ℕ) (state : State) → OwnFor steps state → state.steps + steps < 2 ^ 64
    → RunsOwn true steps state
unfolding step
own_runs zero state own few = tt
own_runs (suc steps) state own few =
    let now : state.steps < 2 ^ 64 - 1 = omega (arith, few) in
    let next : (step state None).steps + steps < 2 ^ 64 = omega (arith, few) in (
      (needs_wanted state now ∙ own 0 (omega arith), or_true _),
      own_runs steps (step state None) (λ k below. own (suc k) (omega (arith, below))) next,
    )

-- so all of them are made
pub all_made : (steps made : ℕ) (state : State) → OwnFor steps state
    → state.steps + steps < 2 ^ 64 → made ≤ steps
    → (made < steps → ¬ RunsOwn true (made + 1) state) → made ≡ steps
all_made steps made state own few most stops = by (cases_lt made steps)
  where
    by : (made < steps) ⊎ (steps ≤ made) → made ≡ steps
    by (inl early) =
        absurd (stops early (own_runs (made + 1) state
        (λ k below. own k (omega (arith, below, early))) (omega (arith, few, early))))
    by (inr late) = omega (arith, most, late)

-- a state without its count of steps has the same ahead
own_uncounted : (steps : ℕ) (state : State)
    → wants (own_run steps state) ≡ wants (own_run steps (uncounted state))
own_uncounted steps state =
    wants_same (own_run steps state) (own_run steps (uncounted state))
    (run_same steps state (uncounted state) refl)

pub own_same : (steps : ℕ) (state : State) → OwnFor steps (uncounted state) → OwnFor steps state
own_same steps state own k below = own_uncounted k state ∙ own k below

pub own_same_back : (steps : ℕ) (state : State) → OwnFor steps state
    → OwnFor steps (uncounted state)
own_same_back steps state own k below = sym (own_uncounted k state) ∙ own k below

module _ (state copy : State) (made : ℕ) (is : copy ≡ own_run made (uncounted state))
    (room : made < 2 ^ 64 - 1) where
  copy_needs : need_of copy ≡ wants (own_run made (uncounted state))
  copy_needs =
      let count = counted_run made (uncounted state) in
      let same : copy.steps ≡ (own_run made (uncounted state)).steps =
      ap (λ (s : State). s.steps) is in
      needs_wanted copy (omega (arith, room, count, same)) ∙ ap wants is

  pub copy_own : true ≡ is_own (need_of copy)
      → wants (own_run made (uncounted state)) ≡ need.Own
  copy_own own = sym copy_needs ∙ own_is (need_of copy) (sym own)

  pub copy_stops : false ≡ is_own (need_of copy)
      → wants (own_run made (uncounted state)) ≡ need.Own → ⊥
  copy_stops none own = false≢true (none ∙ ap is_own (copy_needs ∙ own))

  pub copy_next : (next : State) → wants (own_run made (uncounted state)) ≡ need.Own
      → next ≡ step_if_own (need_of copy) copy → next ≡ own_run (made + 1) (uncounted state)
  copy_next next own next_is =
      next_is ∙ ap (λ n. step_if_own n copy) (copy_needs ∙ own) ∙ ap (λ s. step s None) is
      ∙ sym (own_run-more made (uncounted state))

-- one own step more
pub own_more : (made : ℕ) (state : State) → OwnFor made state
    → wants (own_run made state) ≡ need.Own → OwnFor (made + 1) state
own_more made state own last k below = by (cases_lt k made)
  where
    by : (k < made) ⊎ (made ≤ k) → wants (own_run k state) ≡ need.Own
    by (inl early) = own k early
    by (inr late) =
        let end : k ≡ made = omega (arith, below, late) in
        ap (λ n. wants (own_run n state)) end ∙ last

-- a copy that is again as the node was
pub again_same : (state next : State) → next ≡ record state { steps = next.steps }
    → uncounted next ≡ uncounted state
again_same state next again = ap uncounted again

pub period_of : (made : ℕ) (state next : State) → next ≡ own_run (made + 1) (uncounted state)
    → OwnFor (made + 1) (uncounted state) → uncounted next ≡ uncounted state
    → (spins : Spins state) × (spins.period ≡ made + 1)
period_of made state next is own back = (
  record {
    period = made + 1;
    some = omega arith;
    own = own_same (made + 1) state own;
    back = run_same (made + 1) state (uncounted state) refl ∙ sym (ap uncounted is) ∙ back;
  },
  refl,
)

-- none of the first states, but the first one, is again as it
abbrev pub NoneBack : State → ℕ → Type 0
NoneBack state made =
    (steps : ℕ) → 1 ≤ steps → steps ≤ made
    → uncounted (own_run steps (uncounted state)) ≡ uncounted state → ⊥

pub none_more : (state next : State) (made : ℕ) → NoneBack state made
    → next ≡ own_run (made + 1) (uncounted state) → (uncounted next ≡ uncounted state → ⊥)
    → NoneBack state (made + 1)
none_more state next made none is not steps some few back = by (cases_lt made steps)
  where
    by : (made < steps) ⊎ (steps ≤ made) → ⊥
    by (inr early) = none steps some early back
    by (inl late) =
        let last : steps ≡ made + 1 = omega (arith, late, few) in
        not (ap uncounted is ∙ ap (λ n. uncounted (own_run n (uncounted state))) (sym last) ∙ back)

answer_no : {P : Type 0} (r : Bool) → Decides r P → (P → ⊥) → r ≡ false
answer_no {P = P} r decides never = by r refl
  where
    by : (b : Bool) → r ≡ b → r ≡ false
    by true e = absurd (never (decides.0 e))
    by false e = e

comes_not : (most made : ℕ) (state : State) → NoneBack state made
    → ((steps : ℕ) → made < steps → steps ≤ most → OwnFor steps state → ⊥)
    → comes_back most state state ≡ false
comes_not most made state none beyond =
    answer_no (comes_back most state state) (comes_Decides most state state) not
  where
    not : Comes most state state → ⊥
    not comes = by (cases_lt made comes.steps)
      where
        by : (made < comes.steps) ⊎ (comes.steps ≤ made) → ⊥
        by (inl late) = beyond comes.steps late comes.few comes.own
        by (inr early) =
            none comes.steps comes.some early
            (sym (run_same comes.steps state (uncounted state) refl) ∙ comes.back)

-- a node that stops working by itself doesn't spin
pub none_at_port : (most made : ℕ) (state : State) → NoneBack state made
    → (wants (own_run made (uncounted state)) ≡ need.Own → ⊥)
    → comes_back most state state ≡ false
none_at_port most made state none port =
    comes_not most made state none
    (λ steps late few own. port (own_same_back steps state own made late))

pub none_at_end : (most made : ℕ) (state : State) → NoneBack state made → most ≤ made
    → comes_back most state state ≡ false
none_at_end most made state none all =
    comes_not most made state none (λ steps late few own. omega (arith, all, late, few))

-- whether a period was found that isn't too long
pub spins_value : (state : State) (found : Option ℕ) → IfSome found (λ period. period ≤ 4)
    → IfSome found (λ period. (spins : Spins state) × (spins.period ≡ period))
    → IfNone found (comes_back 4 state state ≡ false) → is_some found ≡ is_spinning state
unfolding is_spinning
spins_value state (Some period) few spins none =
    sym ((spinning_Decides state).1 (spins.0, let is = spins.1 in omega (arith, few, is)))
spins_value state None few spins none = sym none

pub spins_found : (state : State) (found : Option ℕ)
    → IfSome found (λ period. (spins : Spins state) × (spins.period ≡ period))
    → is_some found ≡ true → Spins state
spins_found state (Some period) spins some = spins.0
spins_found state None spins some = absurd (false≢true some)

-- ---- the first state that comes again

pub repeats : (state one two : State) (period made : ℕ) → one ≡ own_run made (uncounted state)
    → two ≡ own_run (made + period) (uncounted state) → uncounted one ≡ uncounted two
    → Repeats state period made
repeats state one two period made one_is two_is same =
    run_same (made + period) state (uncounted state) refl ∙ sym (ap uncounted two_is) ∙ sym same
    ∙ ap uncounted one_is ∙ sym (run_same made state (uncounted state) refl)

pub repeats_back : (state one two : State) (period made : ℕ)
    → one ≡ own_run made (uncounted state) → two ≡ own_run (made + period) (uncounted state)
    → Repeats state period made → uncounted one ≡ uncounted two
repeats_back state one two period made one_is two_is back =
    ap uncounted one_is ∙ sym (run_same made state (uncounted state) refl) ∙ sym back
    ∙ run_same (made + period) state (uncounted state) refl ∙ sym (ap uncounted two_is)

pub not_before : (state : State) (period made : ℕ)
    → ((steps : ℕ) → steps < made → Repeats state period steps → ⊥)
    → (Repeats state period made → ⊥)
    → (steps : ℕ) → steps < made + 1 → Repeats state period steps → ⊥
not_before state period made before here steps below = by (cases_lt steps made)
  where
    by : (steps < made) ⊎ (made ≤ steps) → Repeats state period steps → ⊥
    by (inl early) = before steps early
    by (inr late) =
        let last : made ≡ steps = omega (arith, below, late) in
        subst (λ n. Repeats state period n → ⊥) last here

-- ---- what is ahead

-- not more than this many states of a run of own steps are looked at
module _ (state : State) (made : ℕ) (runs : RunsOwn true made (uncounted state)) where
  own_made : OwnFor made state
  own_made = own_same made state (runs_own made (uncounted state) runs)

  works_none : ((steps : ℕ) → steps ≤ made → Within 4 (own_run steps state) → ⊥)
      → WorksFor state (made + 1)
  works_none none = record {
    some = omega arith;
    own = λ steps below. own_made steps (omega (arith, below));
    none = λ steps below. answer_no (is_spinning (own_run steps state))
        (spinning_Decides (own_run steps state)) (none steps (omega (arith, below)));
  }

  -- up to a step that isn't the node's own
  pub works_to_port : made < 2 ^ 64 - 1 → ¬ RunsOwn true (made + 1) (uncounted state)
      → WorksFor state (made + 1)
  works_to_port few stops =
      works_none (none_before_port 4 made state own_made
      (λ own. stops (own_runs (made + 1) (uncounted state)
      (own_more made (uncounted state) (runs_own made (uncounted state) runs)
      (sym (own_uncounted made state) ∙ own)) (omega (arith, few)))))

  -- up to a state that doesn't spin
  pub works_on : (far : State) → far ≡ own_run made (uncounted state)
      → comes_back 4 far far ≡ false → WorksFor state (made + 1)
  works_on far far_is not =
      works_none (none_before 4 made state own_made
      (λ within. false≢true (sym not ∙ (within_Decides 4 far).1
      (within_same 4 (own_run made state) far
      (run_same made state (uncounted state) refl ∙ ap uncounted (sym far_is)) within))))

  module _ (far : State) (far_is : far ≡ own_run made (uncounted state)) (spins : Spins far)
      (short : spins.period ≤ 4) where
    same : uncounted far ≡ uncounted (own_run made state)
    same = ap uncounted far_is ∙ sym (run_same made state (uncounted state) refl)

    abbrev there : Spins (own_run made state)
    there = spins_same far (own_run made state) same spins

    -- its steps go on to be its own
    pub own_beyond : (more : ℕ) → OwnFor (made + more) state
    own_beyond more steps below = always 4 made state own_made there short steps

    -- so it spins from the first state on that comes again
    pub spins_after : (first : ℕ) → FirstAgain state spins.period made first
        → SpinsAfter state first
    spins_after first again = record {
      own = λ steps below. own_made steps (let few = again.few in omega (arith, below, few));
      before = λ steps below. answer_no (is_spinning (own_run steps state))
          (spinning_Decides (own_run steps state))
          (λ within. again.before steps below
          (within_repeats 4 made state own_made there short steps within));
      spins = (spinning_Decides (own_run first state)).1 (by (cases_lt first made));
    }
      where
        by : (first < made) ⊎ (made ≤ first) → Within 4 (own_run first state)
        by (inl early) =
            repeats_within 4 made state own_made there short first (again.here early)
        by (inr late) =
            let few = again.few in let last : made ≡ first = omega (arith, late, few) in
            subst (λ n. Within 4 (own_run n state)) last (there, short)
