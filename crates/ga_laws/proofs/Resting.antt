-- A run that rests.
use Rattle.std.proofs.Common.{◌≡◌, ◌∙◌, ℕ, zero, suc, ◌+◌, ◌-◌, ◌<◌, ◌≤◌, ◌==◌, ◌%◌, ◌^◌, ◌⊎◌, inl, inr, Bool, true, false, [], ◌∷◌, Option, Some, None, option_map, slice_index_or, refl, sym, ap, subst, arith}
use Rattle.std.specs.Prelude.{if◌then◌else◌}
use Rattle.std.proofs.lemmas.Bool.{cases_eq, eq-eqb, eqb-true, false≢true}
use Rattle.std.proofs.lemmas.Option.{same_Some}
use Rattle.ga_pack.proofs.ByCases.{on_test}
use Rattle.ga_place.specs.Cell.{index_of, name_at}
use Rattle.ga_place.specs.Side.{SIDES}
use Rattle.ga_place.specs.declared.side.Side.{Side}
use Rattle.ga_place.specs.declared.side.Side.TheVariants.{Right, Down, Left, Up}
use Rattle.ga_place.proofs.Cells.{index_below, name_back}
use Rattle.ga_node.specs.Need.{need_of, wants}
use Rattle.ga_node.specs.declared.need.Need.TheVariants as need
use Rattle.ga_node.specs.declared.need.Stop.TheVariants.{Counted}
use Rattle.ga_node.specs.State.{State}
use Rattle.ga_chip.specs.Chip.{Chip, found_by, part_of, tried}
use Rattle.ga_chip.specs.Legal.{IsLegal}
use Rattle.ga_chip.specs.Part.{Part, after, after_asked, asks}
use Rattle.ga_chip.specs.Run.{Try, happened, side_of_turn, turn_of}
use Rattle.ga_chip.specs.declared.outcome.Outcome.TheVariants.{Moved, Stopped, Waits}
use Rattle.ga_chip.proofs.Kept.{has_name, legal_kept, legal_ran}
use Rattle.ga_chip.proofs.Parts.{counts_after}
use Rattle.ga_chip.proofs.Plain.{stopped_asks}
use Rattle.ga_chip.proofs.Tries.{tried_none, tried_still, tried_there}
use Rattle.ga_chip.proofs.Turns.{happened_try}
use Rattle.ga_observe.proofs.Tried.{no_node, part_here, tried_leaves}
use Rattle.ga_trace.specs.Traced.{moved_in, step_in, turned}
use Rattle.ga_trace.specs.Rest.{calm_after, ran_from, spin_count}
use Rattle.ga_trace.specs.declared.rest.Ran.{Ran}
use Rattle.ga_laws.specs.Rest.{CanCount, OnlySpinsMove, OnlySpun, RestLasts, RunRests}
use Rattle.ga_laws.proofs.Spinning.{Calm, CalmNode, MayCount, Moves, Spun, calm, spin_next, spin_of, spun}
use Rattle.ga_laws.proofs.Trying.{InTurn, in_tries, other_part}

-- ---- the counts of steps

turn_count : (turn left : ℕ) (chip : Chip) → IsLegal chip → CanCount (suc left) chip
    → CanCount left (turned turn chip)
unfolding turn_of
turn_count turn left chip legal counts name next there =
    by (in_tries name turn (side_of_turn turn) 144 0 chip legal (omega arith))
  where
    by : InTurn name turn (side_of_turn turn) chip (turned turn chip) (step_in name turn chip)
        → next.steps + left < 2 ^ 64
    by (inl (none, same)) =
        let count = counts name next
        (sym (ap (option_map (λ (p : Part). p.state)) same) ∙ there) in omega (arith, count)
    by (inr made) =
        let part = made.its.part in
        let found = found_by (asks part (side_of_turn turn)) made.mid.cells in
        let is : next ≡ (after part (side_of_turn turn) found).1.state =
        same_Some next (after part (side_of_turn turn) found).1.state (sym there
        ∙ ap (option_map (λ (p : Part). p.state)) (made.leads
        ∙ part_here made.mid name (side_of_turn turn) part _ (asks part (side_of_turn turn))
        (tried_leaves made.mid name (side_of_turn turn) part made.its.there))) in
        let one : next.steps ≡ part.state.steps + 1 =
        ap (λ (s : State). s.steps) is
        ∙ counts_after part (side_of_turn turn) found made.its.moved in
        let count = counts name part.state
        (ap (option_map (λ (p : Part). p.state)) (sym made.there ∙ made.its.there)) in
        omega (arith, count, one)

-- ---- calm turns

calm_turn : (turn left : ℕ) (chip : Chip) → IsLegal chip → CanCount (suc left) chip
    → (moved_in turn chip == spin_count chip) ≡ true
    → Calm (side_of_turn turn) chip (turned turn chip) 0 144
unfolding turn_of spin_count
calm_turn turn left chip legal counts same =
    let equal = eqb-true (moved_in turn chip) (spin_count chip) same in
    (calm (side_of_turn turn) 144 0 chip legal (omega arith)
    (λ at part low high there.
    let count = counts (name_at at) part.state (ap (option_map (λ (p : Part). p.state)) there) in
    λ e. omega (arith, count, e))).1 (omega (arith, equal))

-- The last turns, this many, moved only nodes that spin.
abbrev Calmly : ℕ → ℕ → Chip → Type 0
Calmly zero turn chip = Unit {0}
Calmly (suc calm) zero chip = ⊥
Calmly (suc calm) (suc turn) chip =
    (before : Chip) × Calm (side_of_turn turn) before chip 0 144 × Calmly calm turn before

many : (calm turn : ℕ) (chip : Chip) → Calmly calm turn chip → calm ≤ turn
many zero turn chip calmly = omega arith
many (suc calm) zero chip calmly = absurd calmly
many (suc calm) (suc turn) chip calmly =
    let few = many calm turn calmly.0 calmly.2 in omega (arith, few)

-- a node that doesn't spin was as it is in all of them, and a try in each of them didn't move it
stays : (calm turn : ℕ) (chip : Chip) (name : ℕ) (part : Part) → Calmly calm turn chip
    → index_of name < 144 → part_of chip name ≡ Some part → spin_of (Some part) ≡ false
    → (at : ℕ) → at < turn → turn ≤ at + calm → Moves part (side_of_turn at) chip.cells → ⊥
stays zero turn chip name part calmly below there rests at past last =
    absurd (omega (arith, past, last))
stays (suc calm) zero chip name part calmly below there rests at past last = absurd calmly
stays (suc calm) (suc turn) chip name part (before, its, calmly) below there rests at past last =
    by (subst (λ n. CalmNode (side_of_turn turn) before.cells (part_of before n) (part_of chip n))
    (name_back name below) (its.each (index_of name) (omega arith) (omega (arith, below))))
    (cases_eq at turn) (λ here. stays calm turn before name part calmly below here rests at)
  where
    by : CalmNode (side_of_turn turn) before.cells (part_of before name) (part_of chip name)
        → (at ≡ turn) ⊎ (at ≡ turn → ⊥)
        → (part_of before name ≡ Some part → at < turn → turn ≤ at + calm
        → Moves part (side_of_turn at) before.cells → ⊥)
        → Moves part (side_of_turn at) chip.cells → ⊥
    by (old, here, inl (spun, next)) when before_it moves =
        absurd (false≢true (sym rests ∙ ap spin_of (sym there ∙ next) ∙ spin_next old spun))
    by (old, here, inr (rested, next, not)) (inl same) before_it moves =
        let is : part ≡ old = same_Some part old (sym there ∙ next) in
        not (subst (λ p. Moves p (side_of_turn turn) before.cells) is
        (subst (Moves part (side_of_turn turn)) its.cells
        (subst (λ n. Moves part (side_of_turn n) chip.cells) same moves)))
    by (old, here, inr (rested, next, not)) (inr other) before_it moves =
        before_it (here ∙ sym next ∙ there) (omega (arith, past, other)) (omega (arith, last))
        (subst (Moves part (side_of_turn at)) its.cells moves)

-- so no side moves it behind four of them
module _ (turn : ℕ) (chip : Chip) (name : ℕ) (part : Part) (calmly : Calmly 4 turn chip)
    (below : index_of name < 144) (there : part_of chip name ≡ Some part)
    (rests : spin_of (Some part) ≡ false) where
  named : (at place : ℕ) → at < turn → turn ≤ at + 4 → at % 4 ≡ place
      → Moves part (slice_index_or SIDES place Right) chip.cells → ⊥
  named at place past last is =
      subst (λ n. Moves part (slice_index_or SIDES n Right) chip.cells → ⊥) is
      (stays 4 turn chip name part calmly below there rests at past last)

  four : (side : Side) → Moves part side chip.cells → ⊥
  four Right =
      let few = many 4 turn chip calmly in
      named (turn - 1 - (turn + 3) % 4) 0 (omega (arith, few)) (omega (arith, few))
      (omega (arith, few))
  four Down =
      let few = many 4 turn chip calmly in
      named (turn - 1 - (turn + 2) % 4) 1 (omega (arith, few)) (omega (arith, few))
      (omega (arith, few))
  four Left =
      let few = many 4 turn chip calmly in
      named (turn - 1 - (turn + 1) % 4) 2 (omega (arith, few)) (omega (arith, few))
      (omega (arith, few))
  four Up =
      let few = many 4 turn chip calmly in
      named (turn - 1 - turn % 4) 3 (omega (arith, few)) (omega (arith, few)) (omega (arith, few))

-- ---- the run

-- the chip rests
record Rests (chip : Chip) : Type 0 where
  turn : ℕ
  legal : IsLegal chip
  calmly : Calmly 4 turn chip

rested : (left turn moved calm : ℕ) (chip : Chip) → IsLegal chip → CanCount left chip
    → Calmly calm turn chip → (ran_from left turn moved calm chip).0.rests ≡ true
    → Rests (ran_from left turn moved calm chip).1
unfolding ran_from
rested zero turn moved calm chip legal counts calmly = λ rests. record {
  turn = turn;
  legal = legal;
  calmly = subst (λ n. Calmly n turn chip) (eqb-true calm 4 rests) calmly;
}
rested (suc left) turn moved calm chip legal counts calmly =
    by (calm == 4) refl
    (rested left (suc turn) (moved + moved_in turn chip) next_calm (turned turn chip)
    (legal_ran chip (turn_of (side_of_turn turn)) legal) (turn_count turn left chip legal counts)
    (on_test (moved_in turn chip == spin_count chip)
    (λ same. Calmly (if same then calm + 1 else 0) (suc turn) (turned turn chip))
    (λ same.
    let one : suc calm ≡ calm + 1 = omega arith in
    subst (λ n. Calmly n (suc turn) (turned turn chip)) one
    (chip, calm_turn turn left chip legal counts same, calmly)) (λ differs. tt)))
  where
    next_calm : ℕ
    next_calm = calm_after calm (moved_in turn chip) (spin_count chip)

    next : Ran × Chip
    next =
        ran_from left (suc turn) (moved + moved_in turn chip) next_calm (turned turn chip)

    by : (over : Bool) → (calm == 4) ≡ over → (next.0.rests ≡ true → Rests next.1)
        → (if over then (record { turns = turn; moved = moved; rests = true }, chip)
        else next).0.rests ≡ true
        → Rests (if over then (record { turns = turn; moved = moved; rests = true }, chip)
        else next).1
    by true e later rests = record {
      turn = turn;
      legal = legal;
      calmly = subst (λ n. Calmly n turn chip) (eqb-true calm 4 e) calmly;
    }
    by false e later rests = later rests

pub run_rests : RunRests
unfolding after
run_rests chip most legal counts rests name side not moved = by (part_of end name) refl
  where
    end : Chip
    end = (ran_from most 0 0 0 chip).1

    its : Rests end
    its = rested most 0 0 0 chip legal counts tt rests

    by : (o : Option Part) → part_of end name ≡ o → ⊥
    by None e =
        let still : Waits ≡ Moved = sym (ap (λ r. r.0) (tried_none end name side e)) ∙ moved in cc
    by (Some part) e =
        four its.turn end name part its.calmly
        (index_below name (has_name end name part its.legal e)) e (sym (ap spin_of e) ∙ not) side
        (sym (ap (λ r. r.0) (tried_there end name side part e)) ∙ moved)

-- ---- further tries

-- a try has the same outcome if the node and the cells are the same
same_outcome : (one two : Chip) (name : ℕ) (side : Side) → part_of one name ≡ part_of two name
    → one.cells ≡ two.cells → (tried one name side).0 ≡ (tried two name side).0
same_outcome one two name side part cells = by (part_of two name) refl
  where
    by : (o : Option Part) → part_of two name ≡ o
        → (tried one name side).0 ≡ (tried two name side).0
    by None e =
        ap (λ r. r.0) (tried_none one name side (part ∙ e))
        ∙ sym (ap (λ r. r.0) (tried_none two name side e))
    by (Some its) e =
        ap (λ r. r.0) (tried_there one name side its (part ∙ e))
        ∙ ap (λ cs. (after its side (found_by (asks its side) cs)).0) cells
        ∙ sym (ap (λ r. r.0) (tried_there two name side its e))

spun_self : (chip next : Chip) → OnlySpinsMove chip → next ≡ chip → OnlySpun chip next
spun_self chip next rests same =
    subst (OnlySpun chip) (sym same) (record {
      spin = λ name. refl;
      others = λ name not. refl;
      cells = refl;
      rests = rests;
    })

-- a node that spins makes a step
spun_one : (chip : Chip) (node : ℕ) (side : Side) (part : Part) → IsLegal chip → OnlySpinsMove chip
    → part_of chip node ≡ Some part → spin_of (Some part) ≡ true → MayCount part
    → OnlySpun chip (happened chip (Try node side))
spun_one chip node side part legal rests there spins few = record {
  spin = λ name. spin name (cases_eq node name);
  others = other;
  cells = its.cells;
  rests = λ name at not moved. rests name at (sym (spin name (cases_eq node name)) ∙ not)
      (same_outcome chip next name at
      (sym (other name (sym (spin name (cases_eq node name)) ∙ not))) (sym its.cells) ∙ moved);
}
  where
    next : Chip
    next = happened chip (Try node side)

    its : Spun chip node side part
    its = spun chip node side part legal there few spins

    spin : (name : ℕ) → (node ≡ name) ⊎ (node ≡ name → ⊥) → spin_of (part_of next name)
        ≡ spin_of (part_of chip name)
    spin name (inl same) =
        subst (λ n. spin_of (part_of next n) ≡ spin_of (part_of chip n)) same
        (ap spin_of its.leads ∙ spin_next part spins ∙ sym (ap spin_of there ∙ spins))
    spin name (inr apart) = ap spin_of (other_part name 0 side chip node legal apart)

    other : (name : ℕ) → spin_of (part_of chip name) ≡ false → part_of next name ≡ part_of chip name
    other name not =
        other_part name 0 side chip node legal
        (λ same. false≢true (sym not ∙ ap (λ n. spin_of (part_of chip n)) (sym same)
        ∙ ap spin_of there ∙ spins))

-- a try leaves a chip at rest
spun_try : (chip : Chip) (node : ℕ) (side : Side) → IsLegal chip → OnlySpinsMove chip
    → OnlySpun chip (happened chip (Try node side))
unfolding need_of after
spun_try chip node side legal rests = by (part_of chip node) refl
  where
    next : Chip
    next = happened chip (Try node side)

    still : ((tried chip node side).0 ≡ Moved → ⊥) → OnlySpun chip next
    still stays =
        spun_self chip next rests
        (happened_try chip node side ∙ tried_still chip node side stays)

    full : (part : Part) → part_of chip node ≡ Some part → part.state.steps ≡ 2 ^ 64 - 1
        → (tried chip node side).0 ≡ Moved → ⊥
    full part there all moved =
        let stops : need_of part.state ≡ need.Stopped Counted =
        ap (λ (b : Bool). if b then need.Stopped Counted else wants part.state)
        (eq-eqb part.state.steps (2 ^ 64 - 1) all) in
        let stopped : Stopped ≡ Moved =
        sym (ap (λ q. (after_asked q (found_by q chip.cells) part).0)
        (stopped_asks part side (need.Stopped Counted) Counted refl (sym stops)))
        ∙ sym (ap (λ r. r.0) (tried_there chip node side part there)) ∙ moved in cc

    by : (o : Option Part) → part_of chip node ≡ o → OnlySpun chip next
    by None e = spun_self chip next rests (no_node chip node side e)
    by (Some part) e =
        on_test (spin_of (Some part)) (λ b. OnlySpun chip next)
        (λ spins. elim (cases_eq part.state.steps (2 ^ 64 - 1)) [
          | inl all ↦ still (full part e all)
          | inr few ↦ spun_one chip node side part legal rests e spins few
        ]) (λ not. still (rests node side (ap spin_of e ∙ not)))

pub rest_lasts : RestLasts
rest_lasts chip [] legal rests = spun_self chip chip rests refl
rest_lasts chip (next ∷ tries) legal rests =
    let one = spun_try chip next.node next.side legal rests in
    let more = rest_lasts (happened chip (Try next.node next.side)) tries
    (legal_kept chip (Try next.node next.side) legal) one.rests in
    record {
      spin = λ name. more.spin name ∙ one.spin name;
      others = λ name not. more.others name (one.spin name ∙ not) ∙ one.others name not;
      cells = more.cells ∙ one.cells;
      rests = more.rests;
    }
