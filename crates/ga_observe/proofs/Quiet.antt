-- Turns in which no node moves.
use Rattle.std.proofs.Common.{◌≡◌, ℕ, zero, suc, ◌+◌, ◌-◌, ◌%◌, ◌<◌, ◌≤◌, ◌==◌, ◌⊎◌, inl, inr, List, [], ◌∷◌, ◌++◌, length, map, refl, sym, ap, ◌∙◌, subst, append-nil, add-zero, length-append, arith}
use Rattle.std.specs.Prelude.{if◌then◌else◌}
use Rattle.std.specs.List.{range_with_len, slice_index_or}
use Rattle.std.proofs.lemmas.Bool.{cases_eq, eq-eqb, ne_eqb}
use Rattle.ga_place.specs.Cell.{name_at}
use Rattle.ga_place.specs.Side.{SIDES}
use Rattle.ga_place.specs.declared.side.Side.{Side}
use Rattle.ga_place.specs.declared.side.Side.TheVariants.{Right, Down, Left, Up}
use Rattle.ga_chip.specs.Chip.{Chip}
use Rattle.ga_chip.specs.Outcome.{moved_by}
use Rattle.ga_chip.specs.Run.{Event, Move, Try, happened, move_in, moves, ran, side_of_turn, turn_of, turns_of}
use Rattle.ga_chip.proofs.Tries.{tried_still}
use Rattle.ga_chip.proofs.Turning.{still_more}
use Rattle.ga_chip.proofs.Turns.{count_moves, happened_try}
use Rattle.ga_observe.specs.declared.step.Step.{Step}
use Rattle.ga_observe.specs.Seen.{steps_seen, turns_numbered}
use Rattle.ga_observe.proofs.Deeds.{no_moves}
use Rattle.ga_observe.proofs.Moving.{steps_are_moves}
use Rattle.ga_observe.proofs.Watched.{turn_events, turns_steps, unnumbered}

zero_one : ◌≡◌ {A = ℕ} 0 1 → ⊥
zero_one e = cc

-- tries that don't move change nothing
still_places : (chip : Chip) (side : Side) (indices : List ℕ)
    → length (moves chip (map (λ at. Try (name_at at) side) indices)) ≡ 0
    → ran chip (map (λ at. Try (name_at at) side) indices) ≡ chip
still_places chip side [] none = refl
still_places chip side (index ∷ indices) none =
    let event = Try (name_at index) side in
    let rest : List Event = map (λ at. Try (name_at at) side) indices in
    let both : length (move_in chip event) + length (moves (happened chip event) rest) ≡ 0 =
    sym (length-append (move_in chip event) (moves (happened chip event) rest)) ∙ none in
    let one : length (move_in chip event) ≡ 0 = omega arith in
    let more : length (moves (happened chip event) rest) ≡ 0 = omega arith in
    let here : happened chip event ≡ chip =
    happened_try chip (name_at index) side ∙ tried_still chip (name_at index) side
    (λ moved. zero_one (sym one ∙ count_moves chip (name_at index) side ∙ ap moved_by moved)) in
    ap (λ c. ran c rest) here
    ∙ still_places chip side indices (ap (λ c. length (moves c rest)) (sym here) ∙ more)

pub still_turn : (chip : Chip) (side : Side) → length (moves chip (turn_of side)) ≡ 0
    → ran chip (turn_of side) ≡ chip
unfolding turn_of
still_turn chip side none = still_places chip side (range_with_len 0 144) none

no_steps : (steps : List Step) → map (λ (step : Step). step.node) steps ≡ [] → steps ≡ []
no_steps [] e = refl
no_steps (step ∷ steps) e = cc

-- and are no steps
still_steps : (chip : Chip) (turn : ℕ) → length (moves chip (turn_of (side_of_turn turn))) ≡ 0
    → steps_seen chip (turn_events turn) ≡ []
still_steps chip turn none =
    no_steps (steps_seen chip (turn_events turn))
    (steps_are_moves chip (turn_events turn)
    ∙ ap (λ es. map (λ (move : Move). move.node) (moves chip es))
    (unnumbered turn (turn_of (side_of_turn turn)))
    ∙ ap (map (λ (move : Move). move.node))
    (no_moves (moves chip (turn_of (side_of_turn turn))) none))

-- so a chip in which no node moves has no steps in all further turns
pub still_seen : (start chip : Chip) (count more : ℕ) → chip ≡ ran start (turns_of count)
    → ((side : Side) → length (moves chip (turn_of side)) ≡ 0)
    → steps_seen start (turns_numbered count) ≡ steps_seen start (turns_numbered (count + more))
still_seen start chip count zero is still =
    ap (λ n. steps_seen start (turns_numbered n)) (sym (add-zero count))
still_seen start chip count (suc more) is still =
    let next : count + more + 1 ≡ count + suc more = omega arith in
    still_seen start chip count more is still
    ∙ sym (append-nil (steps_seen start (turns_numbered (count + more))))
    ∙ ap (λ l. steps_seen start (turns_numbered (count + more)) ++ l)
    (sym (still_steps chip (count + more) (still (side_of_turn (count + more)))))
    ∙ turns_steps start chip (count + more)
    (still_more start chip count more is (λ side. still_turn chip side (still side)))
    ∙ ap (λ n. steps_seen start (turns_numbered n)) next

-- The last turns, this many, had no move.
pub record Quiet (chip : Chip) (turn quiet : ℕ) : Type 0 where
  pub few : quiet ≤ turn
  pub still : (at : ℕ) → at < turn → turn ≤ at + quiet
      → length (moves chip (turn_of (side_of_turn at))) ≡ 0

pub quiet_none : (chip : Chip) (turn : ℕ) → Quiet chip turn 0
quiet_none chip turn = record {
  few = omega arith;
  still = λ at below from. absurd (omega arith);
}

-- one more
quiet_one : (chip next : Chip) (turn quiet : ℕ) → next ≡ ran chip (turn_of (side_of_turn turn))
    → length (moves chip (turn_of (side_of_turn turn))) ≡ 0 → Quiet chip turn quiet
    → Quiet next (turn + 1) (quiet + 1)
quiet_one chip next turn quiet is none q = record {
  few = let few = q.few in omega arith;
  still = λ at below from. by at below from (cases_eq at turn);
}
  where
    same : chip ≡ next
    same = sym (is ∙ still_turn chip (side_of_turn turn) none)

    by : (at : ℕ) → at < turn + 1 → turn + 1 ≤ at + (quiet + 1) → (at ≡ turn) ⊎ (at ≡ turn → ⊥)
        → length (moves next (turn_of (side_of_turn at))) ≡ 0
    by at below from (inl here) =
        subst (λ c. length (moves c (turn_of (side_of_turn at))) ≡ 0) same
        (ap (λ n. length (moves chip (turn_of (side_of_turn n)))) here ∙ none)
    by at below from (inr other) =
        let before : at < turn = omega arith in
        let late : turn ≤ at + quiet = omega arith in
        subst (λ c. length (moves c (turn_of (side_of_turn at))) ≡ 0) same (q.still at before late)

pub quiet_more : (chip next : Chip) (turn quiet steps more : ℕ)
    → next ≡ ran chip (turn_of (side_of_turn turn))
    → steps ≡ length (moves chip (turn_of (side_of_turn turn)))
    → more ≡ (if steps == 0 then quiet + 1 else 0) → Quiet chip turn quiet
    → Quiet next (turn + 1) more
quiet_more chip next turn quiet steps more is counted more_is q = by (cases_eq steps 0)
  where
    by : (steps ≡ 0) ⊎ (steps ≡ 0 → ⊥) → Quiet next (turn + 1) more
    by (inl none) =
        subst (Quiet next (turn + 1))
        (sym (more_is ∙ ap (λ b. if b then quiet + 1 else 0) (eq-eqb steps 0 none)))
        (quiet_one chip next turn quiet is (sym counted ∙ none) q)
    by (inr some) =
        subst (Quiet next (turn + 1))
        (sym (more_is ∙ ap (λ b. if b then quiet + 1 else 0) (ne_eqb steps 0 some)))
        (quiet_none next (turn + 1))

-- a turn that named this side was among the last four
named : (chip : Chip) (turn at place : ℕ) → Quiet chip turn 4 → at < turn → turn ≤ at + 4
    → at % 4 ≡ place → length (moves chip (turn_of (slice_index_or SIDES place Right))) ≡ 0
named chip turn at place q below from e =
    subst (λ n. length (moves chip (turn_of (slice_index_or SIDES n Right))) ≡ 0) e
    (q.still at below from)

-- after four such turns, one for each side, no node moves
pub all_still : (chip : Chip) (turn : ℕ) → Quiet chip turn 4 → (side : Side)
    → length (moves chip (turn_of side)) ≡ 0
all_still chip turn q Right =
    let few : 4 ≤ turn = q.few in
    named chip turn (turn - 1 - (turn + 3) % 4) 0 q (omega arith) (omega arith) (omega arith)
all_still chip turn q Down =
    let few : 4 ≤ turn = q.few in
    named chip turn (turn - 1 - (turn + 2) % 4) 1 q (omega arith) (omega arith) (omega arith)
all_still chip turn q Left =
    let few : 4 ≤ turn = q.few in
    named chip turn (turn - 1 - (turn + 1) % 4) 2 q (omega arith) (omega arith) (omega arith)
all_still chip turn q Up =
    let few : 4 ≤ turn = q.few in
    named chip turn (turn - 1 - turn % 4) 3 q (omega arith) (omega arith) (omega arith)
