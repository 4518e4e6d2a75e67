-- What is known of the spins of nodes stays known as the chip runs.
use Rattle.std.proofs.Common.{◌≡◌, ◌∙◌, ℕ, zero, suc, ◌+◌, ◌-◌, ◌<◌, ◌==◌, ◌^◌, ◌⊎◌, inl, inr, Bool, true, false, List, [], ◌∷◌, Option, Some, None, ap, arith, get_or, length, option_map, refl, set, subst, sym}
use Rattle.std.specs.Prelude.{⊤, ◌&&◌, ◌≤◌, if◌then◌else◌, map, replicate}
use Rattle.std.specs.List.{range_with_len}
use Rattle.std.specs.Option.{option_map_or}
use mir.Val.{bool_byte}
use Rattle.std.proofs.lemmas.Bool.{cases_eq}
use Rattle.std.proofs.lemmas.List.{get_or-replicate, get_or-set_other, get_or-set_same, get_or_default, length-set}
use Rattle.std.proofs.lemmas.Option.{none-some, same_Some}
use Rattle.ga_place.specs.Cell.{name_at}
use Rattle.ga_place.specs.declared.side.Side.{Side}
use Rattle.ga_node.specs.State.{State}
use Rattle.ga_node.specs.Need.{need_of, wants}
use Rattle.ga_node.specs.Running.{RunsOwn, own_run}
use Rattle.ga_node.specs.Slot.{step}
use Rattle.ga_node.specs.Spins.{IsAhead, SpinsAfter, WorksFor, is_spinning, uncounted}
use Rattle.ga_node.specs.declared.need.Need.{Need}
use Rattle.ga_node.specs.declared.need.Need.TheVariants as need
use Rattle.ga_node.specs.declared.need.Stop.TheVariants.{Counted}
use Rattle.ga_node.specs.declared.spinning.Ahead.{Ahead}
use Rattle.ga_node.specs.declared.spinning.Ahead.TheVariants as ahead
use Rattle.ga_node.proofs.Spun.{all_made, own_same_back, run_same, spinning_Decides}
use Rattle.ga_node.proofs.Uncounted.{spins_next, spins_own}
use Rattle.ga_chip.specs.Part.{Part, Asks, Nothing, Own, Feed, Post, Take, Check}
use Rattle.ga_chip.specs.Chip.{Chip, part_of, state_of}
use Rattle.ga_chip.specs.Legal.{IsLegal}
use Rattle.ga_chip.specs.Run.{Try, happened, has_break, ran, turn_of}
use Rattle.ga_chip.proofs.Events.{Does, DoesNothing, Else, Here, does, part_from}
use Rattle.ga_chip.proofs.Kept.{legal_kept}
use Rattle.ga_chip.proofs.Parts.{Fits, stand_after}
use Rattle.ga_observe.proofs.Tried.{try_breaks}
use Rattle.ga_trace.specs.Rest.{are_unbroken, spins, spins_with}
use Rattle.ga_trace.specs.declared.spin_watch.Known.{Known}
use Rattle.ga_trace.specs.declared.spin_watch.SpinWatch.{SpinWatch}
use Rattle.ga_trace.specs.Spinning.{IsClear, Knows, LeftAhead, Watches, nothing_known}
use Rattle.ga_trace.proofs.Unbroken.{spins_same, unbroken_alike, unbroken_next}

-- ---- a step of a node

-- a node is as before, or has made an own step, or another one
abbrev Goes : State → State → Type 0
Goes state next =
    (next ≡ state)
    ⊎ (((wants state ≡ need.Own) × (next ≡ step state None))
    ⊎ ((wants state ≡ need.Own → ⊥) × (next.steps ≡ state.steps + 1)))

wanted : (at_limit : Bool) (wish needs : Need)
    → (if at_limit then need.Stopped Counted else wish) ≡ needs
    → (needs ≡ need.Stopped Counted) ⊎ (wish ≡ needs)
wanted true wish needs same = inl (sym same)
wanted false wish needs same = inr same

wants_by : (state : State) (needs : Need) → need_of state ≡ needs
    → (needs ≡ need.Stopped Counted → ⊥) → wants state ≡ needs
unfolding need_of
wants_by state needs same runs =
    by (wanted (state.steps == 2 ^ 64 - 1) (wants state) needs same)
  where
    by : (needs ≡ need.Stopped Counted) ⊎ (wants state ≡ needs) → wants state ≡ needs
    by (inl stopped) = absurd (runs stopped)
    by (inr same) = same

goes_on : (state : State) (word : Option ℕ) (needs : Need) → need_of state ≡ needs
    → (needs ≡ need.Stopped Counted → ⊥) → (needs ≡ need.Own → ⊥) → Goes state (step state word)
unfolding step
goes_on state word needs same runs other =
    inr (inr ((λ own. other (sym (wants_by state needs same runs) ∙ own)), refl))

goes_asked : (asked : Asks) (found : Option ℕ) (state : State)
    → Fits asked (need_of state) state.node → Goes state (stand_after asked found state)
goes_asked (Nothing outcome) found state fits = inl refl
goes_asked Own found state fits =
    inr (inl (wants_by state need.Own fits (λ e. cc), refl))
goes_asked (Feed word) found state fits =
    goes_on state (Some word) need.Input fits (λ e. cc) (λ e. cc)
goes_asked (Post side cell word) found state fits =
    goes_on state None (need.Post side word) fits.1 (λ e. cc) (λ e. cc)
goes_asked (Check side cell) None state fits =
    goes_on state None (need.Check side) fits.1 (λ e. cc) (λ e. cc)
goes_asked (Check side cell) (Some word) state fits = inl refl
goes_asked (Take side cell) None state fits = inl refl
goes_asked (Take side cell) (Some word) state fits =
    goes_on state (Some word) (need.Take fits.0) fits.2 (λ e. cc) (λ e. cc)

-- ---- what is known of a node

spinning_own : (state : State) → is_spinning state ≡ true → wants state ≡ need.Own
spinning_own state spins = spins_own state ((spinning_Decides state).0 spins).0

spinning_next : (state : State) → is_spinning state ≡ true → is_spinning (step state None) ≡ true
unfolding spins_next
spinning_next state spins =
    let within = (spinning_Decides state).0 spins in
    (spinning_Decides (step state None)).1 (spins_next state within.0, within.1)

clear_next : (state : State) (states : ℕ) → IsClear state states
    → IsClear (step state None) (states - 1)
clear_next state states clear = record {
  own = λ steps below. clear.own (suc steps) (omega (arith, below));
  none = λ steps below. clear.none (suc steps) (omega (arith, below));
}

clear_port : (state next : State) (states : ℕ) → (wants state ≡ need.Own → ⊥)
    → IsClear state states → IsClear next (states - 1)
clear_port state next states port clear = record {
  own = λ steps below. absurd (port (clear.own 0 (omega (arith, below))));
  none = λ steps below. absurd (port (clear.own 0 (omega (arith, below))));
}

after_next : (state : State) (after : ℕ) → SpinsAfter state after
    → SpinsAfter (step state None) (after - 1)
after_next state zero it = record {
  own = λ steps below. absurd (omega (arith, below));
  before = λ steps below. absurd (omega (arith, below));
  spins = spinning_next state it.spins;
}
after_next state (suc after) it =
    let less : after ≡ suc after - 1 = omega arith in
    subst (SpinsAfter (step state None)) less (record {
      own = λ steps below. it.own (suc steps) (omega (arith, below));
      before = λ steps below. it.before (suc steps) (omega (arith, below));
      spins = it.spins;
    })

after_port : (state : State) (after : ℕ) → (wants state ≡ need.Own → ⊥) → SpinsAfter state after → ⊥
after_port state zero port it = port (spinning_own state it.spins)
after_port state (suc after) port it = port (it.own 0 (omega arith))

after_unbroken : (is_break : ℕ → Bool) (unbroken : Bool) (state : State) (left : ℕ)
    → SpinsAfter state left → are_unbroken is_break 4 (own_run left state) ≡ unbroken
    → are_unbroken is_break 4 (own_run (left - 1) (step state None)) ≡ unbroken
after_unbroken is_break unbroken state zero it is = unbroken_next is_break state it.spins ∙ is
after_unbroken is_break unbroken state (suc left) it is =
    let less : left ≡ suc left - 1 = omega arith in
    subst (λ n. are_unbroken is_break 4 (own_run n (step state None)) ≡ unbroken) less is

-- what is ahead of a node in a state, by a number of steps and whether somebody sees them
abbrev SpinsIn : (ℕ → Bool) → Bool → State → ℕ → Type 0
SpinsIn is_break unbroken state left =
    SpinsAfter state left × (are_unbroken is_break 4 (own_run left state) ≡ unbroken)

left_next : (is_break : ℕ → Bool) (unbroken : Bool) (state : State) (ahead : Ahead) (passed : ℕ)
    → LeftAhead is_break unbroken state ahead passed
    → LeftAhead is_break unbroken (step state None) ahead (passed + 1)
left_next is_break unbroken state (ahead.Spins after) passed left =
    let less : after - passed - 1 ≡ after - (passed + 1) = omega arith in
    subst (SpinsIn is_break unbroken (step state None)) less (
      after_next state (after - passed) left.0,
      after_unbroken is_break unbroken state (after - passed) left.0 left.1,
    )
left_next is_break unbroken state (ahead.Works states) passed left =
    let less : states - passed - 1 ≡ states - (passed + 1) = omega arith in
    subst (IsClear (step state None)) less (clear_next state (states - passed) left)

left_port : (is_break : ℕ → Bool) (unbroken : Bool) (state next : State) (ahead : Ahead)
    (passed : ℕ) → (wants state ≡ need.Own → ⊥) → LeftAhead is_break unbroken state ahead passed
    → LeftAhead is_break unbroken next ahead (passed + 1)
left_port is_break unbroken state next (ahead.Spins after) passed port left =
    absurd (after_port state (after - passed) port left.0)
left_port is_break unbroken state next (ahead.Works states) passed port left =
    let less : states - passed - 1 ≡ states - (passed + 1) = omega arith in
    subst (IsClear next) less (clear_port state next (states - passed) port left)

-- a step later it is still known
knows_goes : (is_break : ℕ → Bool) (known : Known) (state next : State) → Goes state next
    → Knows is_break known state → Knows is_break known next
unfolding step
knows_goes is_break known state next (inl same) knows =
    subst (Knows is_break known) (sym same) knows
knows_goes is_break known state next (inr (inl (own, is))) knows =
    subst (Knows is_break known) (sym is) (record {
      earlier = let earlier = knows.earlier in omega (arith, earlier);
      left =
          let earlier = knows.earlier in
          let more : state.steps - known.steps + 1 ≡ state.steps + 1 - known.steps =
          omega (arith, earlier) in
          subst (LeftAhead is_break known.is_unbroken (step state None) known.ahead) more
          (left_next is_break known.is_unbroken state known.ahead (state.steps - known.steps)
          knows.left);
    })
knows_goes is_break known state next (inr (inr (port, counted))) knows =
    let earlier = knows.earlier in
    let more : state.steps - known.steps + 1 ≡ next.steps - known.steps =
    omega (arith, earlier, counted) in record {
      earlier = omega (arith, earlier, counted);
      left = subst (LeftAhead is_break known.is_unbroken next known.ahead) more
          (left_port is_break known.is_unbroken state next known.ahead
          (state.steps - known.steps) port knows.left);
    }

-- and with equal breakpoints
knows_alike : (one two : ℕ → Bool) → ((at : ℕ) → one at ≡ two at) → (known : Known)
    (state : State) → Knows one known state → Knows two known state
knows_alike one two alike known state knows = record {
  earlier = knows.earlier;
  left = by known.ahead (state.steps - known.steps) knows.left;
}
  where
    by : (ahead : Ahead) (passed : ℕ) → LeftAhead one known.is_unbroken state ahead passed
        → LeftAhead two known.is_unbroken state ahead passed
    by (ahead.Spins after) passed left = (
      left.0,
      sym (unbroken_alike one two alike 4 (own_run (after - passed) state)) ∙ left.1,
    )
    by (ahead.Works states) passed left = left

-- whether a node spins, by what is known
spins_in : (is_break : ℕ → Bool) (unbroken : Bool) (state : State) (left : ℕ) → left ≡ 0
    → SpinsIn is_break unbroken state left → unbroken ≡ spins_with is_break state
unfolding spins_with
spins_in is_break unbroken state left none it =
    let here : SpinsIn is_break unbroken state 0 =
    subst (SpinsIn is_break unbroken state) none it in
    sym (ap (λ r. r && are_unbroken is_break 4 state) here.0.spins ∙ here.1)

works_in : (is_break : ℕ → Bool) (state : State) → is_spinning state ≡ false
    → false ≡ spins_with is_break state
unfolding spins_with
works_in is_break state works =
    sym (ap (λ r. r && are_unbroken is_break 4 state) works)

pub spins_by : (is_break : ℕ → Bool) (known : Known) (state : State) (after : ℕ)
    → known.ahead ≡ ahead.Spins after → Knows is_break known state
    → after ≤ state.steps - known.steps → known.is_unbroken ≡ spins_with is_break state
spins_by is_break known state after is knows passed =
    spins_in is_break known.is_unbroken state (after - (state.steps - known.steps))
    (omega (arith, passed))
    (subst (λ ahead. LeftAhead is_break known.is_unbroken state ahead (state.steps - known.steps))
    is knows.left)

pub spins_later : (is_break : ℕ → Bool) (known : Known) (state : State) (after : ℕ)
    → known.ahead ≡ ahead.Spins after → Knows is_break known state
    → state.steps - known.steps < after → false ≡ spins_with is_break state
spins_later is_break known state after is knows early =
    let left : SpinsIn is_break known.is_unbroken state (after - (state.steps - known.steps)) =
    subst (λ ahead. LeftAhead is_break known.is_unbroken state ahead (state.steps - known.steps))
    is knows.left in works_in is_break state (left.0.before 0 (omega (arith, early)))

pub works_by : (is_break : ℕ → Bool) (known : Known) (state : State) (states : ℕ)
    → known.ahead ≡ ahead.Works states → Knows is_break known state
    → state.steps - known.steps < states → false ≡ spins_with is_break state
works_by is_break known state states is knows early =
    let left : IsClear state (states - (state.steps - known.steps)) =
    subst (λ ahead. LeftAhead is_break known.is_unbroken state ahead (state.steps - known.steps))
    is knows.left in works_in is_break state (left.none 0 (omega (arith, early)))

-- whether the steps from which a node spins on were looked at
abbrev pub LooksAt : (ℕ → Bool) → State → Ahead → Bool → Type 0
LooksAt is_break state (ahead.Spins after) unbroken =
    are_unbroken is_break 4 (own_run after state) ≡ unbroken
LooksAt is_break state (ahead.Works states) unbroken = ⊤

pub knows_new : (is_break : ℕ → Bool) (known : Known) (state : State)
    → known.steps ≡ state.steps → IsAhead state known.ahead
    → LooksAt is_break state known.ahead known.is_unbroken → Knows is_break known state
knows_new is_break known state same is_ahead looks = record {
  earlier = omega (arith, same);
  left = by known.ahead (state.steps - known.steps) (omega (arith, same)) is_ahead looks;
}
  where
    by : (ahead : Ahead) (passed : ℕ) → passed ≡ 0 → IsAhead state ahead
        → LooksAt is_break state ahead known.is_unbroken
        → LeftAhead is_break known.is_unbroken state ahead passed
    by (ahead.Spins after) passed none it is =
        let all : after ≡ after - passed = omega (arith, none) in
        subst (SpinsIn is_break known.is_unbroken state) all (it, is)
    by (ahead.Works states) passed none it is =
        let all : states ≡ states - passed = omega (arith, none) in
        subst (IsClear state) all (record { own = it.own; none = it.none })

-- ---- what is known of a chip

watches_try : (chip : Chip) (node : ℕ) (side : Side) (watch : SpinWatch) → IsLegal chip
    → Watches chip watch → Watches (happened chip (Try node side)) watch
watches_try chip node side watch legal before = by (does chip (Try node side))
  where
    moved : Does chip (Try node side) → Watches (happened chip (Try node side)) watch
    moved d = record { nodes = before.nodes; knows = each }
      where
        known : ℕ → Known
        known index = get_or watch.nodes index nothing_known

        from : (index : ℕ) → index < 144 → (part : Part)
            → Here chip (Try node side) d (name_at index) part
            ⊎ Else chip (Try node side) d (name_at index) part
            → Knows (has_break chip (name_at index)) (known index) part.state
        from index below part (inl here) =
            subst (λ (p : Part). Knows (has_break chip (name_at index)) (known index) p.state)
            (sym here.part_is)
            (knows_goes (has_break chip (name_at index)) (known index) d.part.state d.next.state
            (subst (Goes d.part.state) (sym d.stands)
            (goes_asked d.asked d.found d.part.state d.fits))
            (before.knows index below d.part.state
            (ap (state_of chip) here.name_is
            ∙ ap (option_map (λ (p : Part). p.state)) d.there)))
        from index below part (inr other) =
            before.knows index below part.state
            (ap (option_map (λ (p : Part). p.state)) other.there)

        at : (index : ℕ) → index < 144 → (state : State) (found : Option Part)
            → part_of (happened chip (Try node side)) (name_at index) ≡ found
            → option_map (λ (p : Part). p.state) found ≡ Some state
            → Knows (has_break chip (name_at index)) (known index) state
        at index below state None e same = absurd (none-some state same)
        at index below state (Some part) e same =
            subst (Knows (has_break chip (name_at index)) (known index))
            (same_Some part.state state same)
            (from index below part
            (part_from chip (Try node side) d (name_at index) part legal.parts e))

        each : (index : ℕ) → index < 144 → (state : State)
            → state_of (happened chip (Try node side)) (name_at index) ≡ Some state
            → Knows (has_break (happened chip (Try node side)) (name_at index)) (known index)
            state
        each index below state there =
            knows_alike (has_break chip (name_at index))
            (has_break (happened chip (Try node side)) (name_at index))
            (λ address. sym (try_breaks chip node (name_at index) address side legal))
            (known index) state
            (at index below state (part_of (happened chip (Try node side)) (name_at index)) refl
            there)

    by : DoesNothing chip (Try node side) ⊎ Does chip (Try node side)
        → Watches (happened chip (Try node side)) watch
    by (inl nothing) = subst (λ c. Watches c watch) (sym nothing.0) before
    by (inr d) = moved d

-- after a turn it is still known
watches_tries : (chip : Chip) (side : Side) (indexes : List ℕ) (watch : SpinWatch) → IsLegal chip
    → Watches chip watch
    → Watches (ran chip (map (λ index. Try (name_at index) side) indexes)) watch
watches_tries chip side [] watch legal before = before
watches_tries chip side (index ∷ indexes) watch legal before =
    watches_tries (happened chip (Try (name_at index) side)) side indexes watch
    (legal_kept chip (Try (name_at index) side) legal)
    (watches_try chip (name_at index) side watch legal before)

pub watches_turn : (chip : Chip) (side : Side) (watch : SpinWatch) → IsLegal chip
    → Watches chip watch → Watches (ran chip (turn_of side)) watch
unfolding turn_of
watches_turn chip side watch legal before =
    watches_tries chip side (range_with_len 0 144) watch legal before

-- ---- the watch

knows_nothing : (is_break : ℕ → Bool) (state : State) → Knows is_break nothing_known state
knows_nothing is_break state = record {
  earlier = omega arith;
  left = record {
    own = λ steps below. absurd (omega (arith, below));
    none = λ steps below. absurd (omega (arith, below));
  };
}

-- at first nothing is known
pub watches_none : (chip : Chip) (watch : SpinWatch) → watch.nodes ≡ replicate 144 nothing_known
    → Watches chip watch
watches_none chip watch is = record {
  nodes = ap (λ (l : List Known). length l) is;
  knows = λ index below state there.
      subst (λ known. Knows (has_break chip (name_at index)) known state)
      (sym (ap (λ l. get_or l index nothing_known) is
      ∙ get_or-replicate 144 index nothing_known nothing_known below))
      (knows_nothing (has_break chip (name_at index)) state);
}

-- more is known of one node
pub watches_one : (chip : Chip) (old new : SpinWatch) (index : ℕ) (state : State)
    → Watches chip old → state_of chip (name_at index) ≡ Some state → length new.nodes ≡ 144
    → Knows (has_break chip (name_at index)) (get_or new.nodes index nothing_known) state
    → ((other : ℕ) → (other ≡ index → ⊥)
    → get_or new.nodes other nothing_known ≡ get_or old.nodes other nothing_known)
    → Watches chip new
watches_one chip old new index state before there all knows others = record {
  nodes = all;
  knows = λ at below its its_there. by at below its its_there (cases_eq at index);
}
  where
    by : (at : ℕ) → at < 144 → (its : State) → state_of chip (name_at at) ≡ Some its
        → (at ≡ index) ⊎ (at ≡ index → ⊥)
        → Knows (has_break chip (name_at at)) (get_or new.nodes at nothing_known) its
    by at below its its_there (inl same) =
        subst (λ i. Knows (has_break chip (name_at i)) (get_or new.nodes i nothing_known) its)
        (sym same)
        (subst (Knows (has_break chip (name_at index)) (get_or new.nodes index nothing_known))
        (same_Some state its (sym there ∙ ap (λ i. state_of chip (name_at i)) (sym same)
        ∙ its_there)) knows)
    by at below its its_there (inr apart) =
        subst (λ known. Knows (has_break chip (name_at at)) known its) (sym (others at apart))
        (before.knows at below its its_there)

-- what is known of a node in front of a list of what is known
pub its_known : (chip : Chip) (watch : SpinWatch) (index : ℕ) (state : State) → index < 144
    → Watches chip watch → state_of chip (name_at index) ≡ Some state → (other : Known)
    → Knows (has_break chip (name_at index)) (get_or watch.nodes index other) state
its_known chip watch index state below watches there other =
    let all = watches.nodes in
    subst (λ known. Knows (has_break chip (name_at index)) known state)
    (get_or_default watch.nodes index nothing_known other (omega (arith, below, all)))
    (watches.knows index below state there)

-- more is known of one node
pub watches_set : (chip : Chip) (watch : SpinWatch) (index : ℕ) (known : Known) (state : State)
    → index < 144 → Watches chip watch → state_of chip (name_at index) ≡ Some state
    → Knows (has_break chip (name_at index)) known state
    → Watches chip (record { nodes = set watch.nodes index known })
watches_set chip watch index known state below watches there knows =
    let all = watches.nodes in
    watches_one chip watch (record { nodes = set watch.nodes index known }) index state watches
    there (length-set watch.nodes index known ∙ all)
    (subst (λ k. Knows (has_break chip (name_at index)) k state)
    (sym (get_or-set_same watch.nodes index known nothing_known (omega (arith, below, all)))) knows)
    (λ other apart. get_or-set_other watch.nodes index other known nothing_known apart)

-- whether the node of an index spins, by its state
pub spins_there : (chip : Chip) (name : ℕ) (state : State) (answer : Bool)
    → state_of chip name ≡ Some state → answer ≡ spins_with (has_break chip name) state
    → answer ≡ spins chip name
spins_there chip name state answer there is =
    is ∙ sym (ap (λ found. option_map_or (spins_with (has_break chip name)) found false) there)

-- a node that works spins in no state that was looked at
pub works_now : (is_break : ℕ → Bool) (state : State) (its : Ahead) (states : ℕ)
    → its ≡ ahead.Works states → IsAhead state its → false ≡ spins_with is_break state
works_now is_break state its states is it =
    let works : WorksFor state states = subst (IsAhead state) is it in
    works_in is_break state (works.none 0 works.some)

-- the steps from which a node spins on were looked at, by a copy
pub looks_spins : (is_break : ℕ → Bool) (state far : State) (its : Ahead) (after made : ℕ)
    (unbroken : Bool) → its ≡ ahead.Spins after → IsAhead state its → after < 2 ^ 64 → made ≤ after
    → (made < after → ¬ RunsOwn true (made + 1) (uncounted state))
    → far ≡ own_run made (uncounted state) → unbroken ≡ spins_with is_break far
    → LooksAt is_break state its unbroken
unfolding spins_with
looks_spins is_break state far its after made unbroken is it few most stops far_is looked =
    subst (λ a. LooksAt is_break state a unbroken) (sym is)
    (sym (ap (λ r. r && are_unbroken is_break 4 (own_run after state)) spins.spins)
    ∙ sym (spins_same is_break far (own_run after state) same) ∙ sym looked)
  where
    spins : SpinsAfter state after
    spins = subst (IsAhead state) is it

    all : made ≡ after
    all =
        all_made after made (uncounted state) (own_same_back after state spins.own)
        (omega (arith, few)) most stops

    same : uncounted far ≡ uncounted (own_run after state)
    same =
        ap uncounted far_is ∙ ap (λ n. uncounted (own_run n (uncounted state))) all
        ∙ run_same after (uncounted state) state refl

pub looks_works : (is_break : ℕ → Bool) (state : State) (its : Ahead) (states : ℕ) (unbroken : Bool)
    → its ≡ ahead.Works states → LooksAt is_break state its unbroken
looks_works is_break state its states unbroken is =
    subst (λ a. LooksAt is_break state a unbroken) (sym is) tt

-- one node more is counted if it spins
pub counted_one : (answer : Bool) (name : ℕ)
    → bool_byte answer ≡ length (if answer then name ∷ [] else [])
counted_one true name = refl
counted_one false name = refl

pub few_one : (answer : Bool) → bool_byte answer ≤ 1
few_one true = omega arith
few_one false = omega arith
