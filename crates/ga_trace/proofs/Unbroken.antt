-- Whether the steps of a node that spins begin at breakpoints, by one period of it.
use Rattle.std.proofs.Common.{◌≡◌, ◌∙◌, ℕ, zero, suc, ◌+◌, ◌-◌, ◌≤◌, ◌<◌, ◌%◌, ◌^◌, ◌⊎◌, inl, inr, Bool, true, false, None, ap, arith, ap₂, refl, sym}
use Rattle.std.specs.Bool.{Decides}
use Rattle.std.specs.Prelude.{◌&&◌, not}
use Rattle.std.proofs.lemmas.Bool.{cases_lt}
use Rattle.std.proofs.lemmas.Bool.Decides.{Decides-and, Decides-like}
use Rattle.ga_node.specs.State.{State, is_fetch}
use Rattle.ga_node.specs.Running.{own_run}
use Rattle.ga_node.specs.Slot.{step}
use Rattle.ga_node.specs.Spins.{Spins, comes_back, is_spinning, uncounted}
use Rattle.ga_node.proofs.Spun.{own_run-add, run_same, spinning_Decides, spins_value}
use Rattle.ga_node.proofs.Uncounted.{wants_same}
use Rattle.ga_trace.specs.Rest.{are_unbroken, is_unbroken, spins_with}

module _ (is_break : ℕ → Bool) where
  -- it doesn't matter how many steps were made
  same_unbroken : (one two : State) → uncounted one ≡ uncounted two
      → is_unbroken is_break one ≡ is_unbroken is_break two
  same_unbroken one two same =
      ap (λ (s : State). not (is_fetch s.place && is_break (s.p % 2 ^ 9))) same

  -- none of the next steps begins at a breakpoint
  abbrev pub AllUnbroken : ℕ → State → Type 0
  AllUnbroken count state =
      (steps : ℕ) → steps < count → is_unbroken is_break (own_run steps state) ≡ true

  unbroken_first : (count : ℕ) (state : State)
      → (is_unbroken is_break state ≡ true) × AllUnbroken count (step state None)
      → AllUnbroken (suc count) state
  unbroken_first count state (here, more) zero below = here
  unbroken_first count state (here, more) (suc steps) below = more steps (omega (arith, below))

  pub unbroken_Decides : (count : ℕ) (state : State)
      → Decides (are_unbroken is_break count state) (AllUnbroken count state)
  unfolding are_unbroken
  unbroken_Decides zero state = (λ e steps below. absurd (omega (arith, below)), λ all. refl)
  unbroken_Decides (suc count) state =
      Decides-like (are_unbroken is_break (suc count) state) (unbroken_first count state)
      (λ all. (all 0 (omega arith), λ steps below. all (suc steps) (omega (arith, below))))
      (Decides-and (is_unbroken is_break state) (are_unbroken is_break count (step state None))
      ((λ e. e), (λ e. e)) (unbroken_Decides count (step state None)))

  -- a period without a breakpoint has none behind it
  unbroken_always : (state : State) (spins : Spins state) → AllUnbroken spins.period state
      → (most steps : ℕ) → steps < most → is_unbroken is_break (own_run steps state) ≡ true
  unbroken_always state spins all zero steps below = absurd (omega (arith, below))
  unbroken_always state spins all (suc most) steps below =
      by (cases_lt steps spins.period) (unbroken_always state spins all most)
    where
      by : (steps < spins.period) ⊎ (spins.period ≤ steps)
          → ((rest : ℕ) → rest < most → is_unbroken is_break (own_run rest state) ≡ true)
          → is_unbroken is_break (own_run steps state) ≡ true
      by (inl early) again = all steps early
      by (inr late) again =
          let some = spins.some in
          let rest = steps - spins.period in
          let sum : steps ≡ spins.period + rest = omega (arith, late) in
          same_unbroken (own_run steps state) (own_run rest state)
          (ap (λ n. uncounted (own_run n state)) sum
          ∙ ap uncounted (own_run-add spins.period rest state)
          ∙ run_same rest (own_run spins.period state) state spins.back)
          ∙ again rest (omega (arith, below, late, some))

  same_answer : {P Q : Type 0} (r q : Bool) → Decides r P → Decides q Q → (P → Q) → (Q → P) → r ≡ q
  same_answer true q one two to from = sym (two.1 (to (one.0 refl)))
  same_answer false true one two to from = one.1 (from (two.0 refl))
  same_answer false false one two to from = refl

  -- a period is enough
  pub unbroken_period : (state : State) (spins : Spins state) (count : ℕ) → spins.period ≤ count
      → are_unbroken is_break spins.period state ≡ are_unbroken is_break count state
  unbroken_period state spins count long =
      same_answer (are_unbroken is_break spins.period state) (are_unbroken is_break count state)
      (unbroken_Decides spins.period state) (unbroken_Decides count state)
      (λ all steps below. unbroken_always state spins all count steps below)
      (λ all steps below. all steps (omega (arith, below, long)))

  -- and the same holds a step later
  pub unbroken_next : (state : State) → is_spinning state ≡ true
      → are_unbroken is_break 4 (step state None) ≡ are_unbroken is_break 4 state
  unbroken_next state is =
      let within = (spinning_Decides state).0 is in
      let spins = within.0 in
      same_answer (are_unbroken is_break 4 (step state None))
      (are_unbroken is_break 4 state) (unbroken_Decides 4 (step state None))
      (unbroken_Decides 4 state) (back state spins within.1)
      (λ all steps below. unbroken_always state spins
      (λ early few. all early (let short = within.1 in omega (arith, few, short))) 5 (suc steps)
      (omega (arith, below)))
    where
      last : (state : State) (period : ℕ) → 1 ≤ period
          → uncounted (own_run period state) ≡ uncounted state → period ≤ 4
          → AllUnbroken 4 (step state None) → is_unbroken is_break state ≡ true
      last state zero some back few all = absurd (omega (arith, some))
      last state (suc before) some back few all =
          sym (same_unbroken (own_run (suc before) state) state back)
          ∙ all before (omega (arith, few))

      back : (state : State) (spins : Spins state) → spins.period ≤ 4
          → AllUnbroken 4 (step state None) → AllUnbroken 4 state
      back state spins short all zero below =
          last state spins.period spins.some spins.back short all
      back state spins short all (suc steps) below = all steps (omega (arith, below))

  -- states that are equal but for the number of steps have equal answers
  pub unbroken_same : (count : ℕ) (one two : State) → uncounted one ≡ uncounted two
      → are_unbroken is_break count one ≡ are_unbroken is_break count two
  unbroken_same count one two same =
      same_answer (are_unbroken is_break count one) (are_unbroken is_break count two)
      (unbroken_Decides count one) (unbroken_Decides count two)
      (λ all steps below. sym (same_unbroken (own_run steps one) (own_run steps two)
      (run_same steps one two same)) ∙ all steps below)
      (λ all steps below. same_unbroken (own_run steps one) (own_run steps two)
      (run_same steps one two same) ∙ all steps below)

  -- states that are equal but for the number of steps spin alike
  within_same : (one two : State) → uncounted one ≡ uncounted two
      → ((spins : Spins one) × (spins.period ≤ 4))
      → ((spins : Spins two) × (spins.period ≤ 4))
  within_same one two same within = (
    record {
      period = within.0.period;
      some = within.0.some;
      own = λ steps below. sym (wants_same (own_run steps one) (own_run steps two)
          (run_same steps one two same)) ∙ within.0.own steps below;
      back = sym (run_same within.0.period one two same) ∙ within.0.back ∙ same;
    },
    within.1,
  )

  pub spins_same : (one two : State) → uncounted one ≡ uncounted two
      → spins_with is_break one ≡ spins_with is_break two
  unfolding spins_with
  spins_same one two same =
      ap₂ (λ r q. r && q)
      (same_answer (is_spinning one) (is_spinning two) (spinning_Decides one)
      (spinning_Decides two) (within_same one two same) (within_same two one (sym same)))
      (unbroken_same 4 one two same)

  -- whether a node spins, by a period that was found
  pub spins_period : (state : State) (period : ℕ) → period ≤ 4
      → (spins : Spins state) × (spins.period ≡ period)
      → are_unbroken is_break period state ≡ spins_with is_break state
  unfolding spins_with
  spins_period state period few found =
      let spins = found.0 in
      let same = found.1 in
      let short : spins.period ≤ 4 = omega (arith, few, same) in
      ap (λ n. are_unbroken is_break n state) (sym same)
      ∙ unbroken_period state spins 4 short
      ∙ sym (ap (λ r. r && are_unbroken is_break 4 state)
      ((spinning_Decides state).1 (spins, short)))

  pub spins_not : (state : State) → comes_back 4 state state ≡ false
      → false ≡ spins_with is_break state
  unfolding spins_with
  spins_not state none =
      ap (λ r. r && are_unbroken is_break 4 state) (spins_value state None tt tt none)

  -- ---- the steps that are looked at

  -- the next step of a copy begins at a breakpoint if that of the node does
  pub unbroken_here : (state copy : State) (made : ℕ) → copy ≡ own_run made (uncounted state)
      → is_unbroken is_break copy ≡ is_unbroken is_break (own_run made state)
  unbroken_here state copy made is =
      same_unbroken copy (own_run made state)
      (ap uncounted is ∙ run_same made (uncounted state) state refl)

  pub unbroken_more : (state : State) (made : ℕ) → AllUnbroken made state
      → is_unbroken is_break (own_run made state) ≡ true → AllUnbroken (made + 1) state
  unbroken_more state made all last steps below = by (cases_lt steps made)
    where
      by : (steps < made) ⊎ (made ≤ steps) → is_unbroken is_break (own_run steps state) ≡ true
      by (inl early) = all steps early
      by (inr late) =
          let end : steps ≡ made = omega (arith, below, late) in
          ap (λ n. is_unbroken is_break (own_run n state)) end ∙ last

  pub seen_one : (state : State) (made count : ℕ) → made < count
      → is_unbroken is_break (own_run made state) ≡ false
      → false ≡ are_unbroken is_break count state
  seen_one state made count below seen = by (are_unbroken is_break count state) refl
    where
      by : (r : Bool) → are_unbroken is_break count state ≡ r → false ≡ r
      by false e = refl
      by true e = sym seen ∙ (unbroken_Decides count state).0 e made below

  pub unbroken_all : (state : State) (made count : ℕ) → AllUnbroken made state → count ≤ made
      → true ≡ are_unbroken is_break count state
  unbroken_all state made count all few =
      sym ((unbroken_Decides count state).1
      (λ steps below. all steps (omega (arith, few, below))))

-- equal breakpoints have equal answers
pub unbroken_alike : (one two : ℕ → Bool) → ((at : ℕ) → one at ≡ two at) → (count : ℕ)
    (state : State) → are_unbroken one count state ≡ are_unbroken two count state
unfolding are_unbroken
unbroken_alike one two alike zero state = refl
unbroken_alike one two alike (suc count) state =
    ap₂ (λ r q. not (is_fetch state.place && r) && q)
    (alike (state.p % 2 ^ 9)) (unbroken_alike one two alike count (step state None))
