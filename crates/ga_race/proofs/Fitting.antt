-- The counts of a run's steps have at most 64 bits.
use Rattle.std.proofs.Common.{◌≡◌, ℕ, ◌+◌, ◌-◌, ◌^◌, ◌<◌, ◌≤◌, [], ◌∷◌, ◌⊎◌, inl, inr, length, Option, Some, None, refl, sym, ap, ◌∙◌, subst, arith}
use Rattle.std.specs.Prelude.{if◌then◌else◌, option_map}
use Rattle.std.proofs.lemmas.Bool.{cases_eq, eq-eqb}
use Rattle.std.proofs.lemmas.List.Elements.{All-append, All-cons, All-nil}
use Rattle.std.proofs.lemmas.Option.{none-some, same_Some}
use Rattle.ga_place.specs.Cell.{index_of, name_at}
use Rattle.ga_place.proofs.Cells.{index_below, name_back}
use Rattle.ga_node.specs.State.{State}
use Rattle.ga_node.specs.Need.{need_of, wants}
use Rattle.ga_node.specs.declared.need.Need.{Need}
use Rattle.ga_node.specs.declared.need.Need.TheVariants as need
use Rattle.ga_node.specs.declared.need.Stop.TheVariants.{Counted}
use Rattle.ga_chip.specs.Part.{Part, Asks, Nothing, Own, Feed, Post, Take, Check}
use Rattle.ga_chip.specs.Chip.{Chip, part_of, state_of}
use Rattle.ga_chip.specs.Legal.{IsLegal}
use Rattle.ga_chip.specs.Run.{Event, Move, happened, move_in, moves_of}
use Rattle.ga_chip.proofs.Kept.{has_name, legal_kept}
use Rattle.ga_chip.proofs.Moments.{Makes, makes_event, one_at_most}
use Rattle.ga_chip.proofs.Parts.{Fits, Passes}
use Rattle.ga_chip.proofs.Runs.{part_before, stand_event}
use Rattle.ga_observe.specs.declared.step.Step.{Step}
use Rattle.ga_observe.specs.Seen.{step_of, steps_in, steps_seen}
use Rattle.ga_race.specs.Watch.{AreCounted, CountsFit, StepsAreCounted, count_of}
use Rattle.ga_race.proofs.Prefixes.{One, one_or_none}
use Rattle.ga_race.proofs.Following.{no_step, one_step}

-- a move is made by no node that has stopped
moves_on : (q : Asks) (found : Option ℕ) (n : Need) (name : ℕ) → Fits q n name → Passes q found
    → n ≡ need.Stopped Counted → ⊥
moves_on (Nothing outcome) found n name fits p e = p
moves_on Own found n name fits p e = let f : need.Own ≡ need.Stopped Counted = sym fits ∙ e in cc
moves_on (Feed word) found n name fits p e =
    let f : need.Input ≡ need.Stopped Counted = sym fits ∙ e in cc
moves_on (Post side cell word) found n name fits p e =
    let f : need.Post side word ≡ need.Stopped Counted = sym fits.1 ∙ e in cc
moves_on (Take side cell) found n name fits p e =
    let f : need.Take fits.0 ≡ need.Stopped Counted = sym fits.2 ∙ e in cc
moves_on (Check side cell) found n name fits p e =
    let f : need.Check side ≡ need.Stopped Counted = sym fits.1 ∙ e in cc

stops : (state : State) → state.steps ≡ 2 ^ 64 - 1 → need_of state ≡ need.Stopped Counted
unfolding need_of
stops state e =
    ap (λ b. if b then need.Stopped Counted else wants state) (eq-eqb state.steps (2 ^ 64 - 1) e)

one_more : (steps : ℕ) → steps < 2 ^ 64 → (steps ≡ 2 ^ 64 - 1) ⊎ (steps ≡ 2 ^ 64 - 1 → ⊥)
    → (steps ≡ 2 ^ 64 - 1 → ⊥) → steps + 1 < 2 ^ 64
one_more steps h (inl e) apart = absurd (apart e)
one_more steps h (inr ne) apart = omega (arith, ne)

part_state : (chip : Chip) (name : ℕ) (part : Part) → part_of chip name ≡ Some part
    → state_of chip name ≡ Some part.state
part_state chip name part there = ap (λ p. option_map (λ (p : Part). p.state) p) there

-- so it has room for its step
room : (chip : Chip) (name : ℕ) (m : Move) (a : Makes chip name m) → CountsFit chip
    → a.part.state.steps + 1 < 2 ^ 64
room chip name m a fit =
    one_more a.part.state.steps (fit name a.part.state (part_state chip name a.part a.there))
    (cases_eq a.part.state.steps (2 ^ 64 - 1))
    (λ e. moves_on m.asked m.found (need_of a.part.state) a.part.state.node a.fits a.passed
    (stops a.part.state e))

fit_next : (chip : Chip) (event : Event) → IsLegal chip → CountsFit chip
    → CountsFit (happened chip event)
fit_next chip event legal fit name state there = by (part_of (happened chip event) name) refl there
  where
    at : (now : Part) → part_of (happened chip event) name ≡ Some now → now.state.steps < 2 ^ 64
    at now e =
        let old = part_before chip event name now legal e in
        let s = stand_event chip event name old.0 legal old.1 in
        let same : now ≡ s.now = same_Some now s.now (sym e ∙ s.there) in
        let steps : now.state.steps
        ≡ old.0.state.steps + length (moves_of name (move_in chip event)) =
        ap (λ (p : Part). p.state.steps) same ∙ s.steps in
        moved old.0 old.1 (one_at_most chip event name) steps
      where
        moved : (p : Part) → part_of chip name ≡ Some p → (moves_of name (move_in chip event) ≡ [])
            ⊎ ((m : Move) × (moves_of name (move_in chip event) ≡ m ∷ []))
            → now.state.steps ≡ p.state.steps + length (moves_of name (move_in chip event))
            → now.state.steps < 2 ^ 64
        moved p here (inl none) steps =
            let same : now.state.steps ≡ p.state.steps + 0 =
            steps ∙ ap (λ l. p.state.steps + length l) none in
            let small = fit name p.state (part_state chip name p here) in omega arith
        moved p here (inr (m, one)) steps =
            let a = makes_event chip event name m one in
            let same : now.state.steps ≡ p.state.steps + 1 =
            steps ∙ ap (λ l. p.state.steps + length l) one in
            let is : p.state.steps ≡ a.part.state.steps =
            ap (λ (q : Part). q.state.steps) (same_Some p a.part (sym here ∙ a.there)) in
            let small = room chip name m a fit in omega arith

    by : (o : Option Part) → part_of (happened chip event) name ≡ o
        → option_map (λ (p : Part). p.state) o ≡ Some state → state.steps < 2 ^ 64
    by None e f = absurd (none-some state f)
    by (Some now) e f =
        subst (λ (s : State). s.steps < 2 ^ 64) (same_Some now.state state f) (at now e)

abbrev IsCounted : Step → Type 0
IsCounted step = count_of step < 2 ^ 64

event_fits : (chip : Chip) (turn : ℕ) (event : Event) → IsLegal chip → CountsFit chip
    → AreCounted (steps_in turn chip event)
event_fits chip turn event legal fit = by (one_or_none chip event)
  where
    by : (move_in chip event ≡ []) ⊎ One chip event → AreCounted (steps_in turn chip event)
    by (inl none) = subst AreCounted (sym (no_step chip event turn none)) (All-nil IsCounted)
    by (inr o) =
        subst AreCounted (sym (one_step chip event turn o))
        (All-cons IsCounted (step_of turn o.makes.part.state o.move) []
        (room chip o.move.node o.move o.makes fit) (All-nil IsCounted))

pub steps_are_counted : StepsAreCounted
steps_are_counted chip [] legal fit = All-nil IsCounted
steps_are_counted chip (next ∷ events) legal fit =
    All-append IsCounted (steps_in next.0 chip next.1)
    (steps_seen (happened chip next.1) events) (event_fits chip next.0 next.1 legal fit)
    (steps_are_counted (happened chip next.1) events (legal_kept chip next.1 legal)
    (fit_next chip next.1 legal fit))

-- The counts of the nodes before an index in order of name have at most 64 bits.
abbrev pub FitsBelow : Chip → ℕ → Type 0
FitsBelow chip index =
    (at : ℕ) (state : State) → at < index → state_of chip (name_at at) ≡ Some state
    → state.steps < 2 ^ 64

pub fits_more : (chip : Chip) (index node : ℕ) (here : State) → name_at index ≡ node
    → Some here ≡ state_of chip node → here.steps < 2 ^ 64 → FitsBelow chip index
    → FitsBelow chip (index + 1)
fits_more chip index node here named there small before at state below is =
    by (cases_eq at index)
  where
    by : (at ≡ index) ⊎ (at ≡ index → ⊥) → state.steps < 2 ^ 64
    by (inl same) =
        subst (λ (s : State). s.steps < 2 ^ 64)
        (same_Some here state (there ∙ ap (state_of chip) (sym named ∙ ap name_at (sym same)) ∙ is))
        small
    by (inr apart) = before at state (omega (arith, apart)) is

pub fits_all : (chip : Chip) (index : ℕ) → IsLegal chip → 144 ≤ index → FitsBelow chip index
    → CountsFit chip
fits_all chip index legal end all name state is = by (part_of chip name) refl
  where
    by : (o : Option Part) → part_of chip name ≡ o → state.steps < 2 ^ 64
    by None e =
        absurd (none-some state (sym (ap (λ p. option_map (λ (p : Part). p.state) p) e) ∙ is))
    by (Some part) e =
        let below : index_of name < 144 = index_below name (has_name chip name part legal e) in
        all (index_of name) state (omega arith)
        (ap (state_of chip) (name_back name below) ∙ is)
