-- Rounds of a single worker.
use Rattle.std.proofs.Common.{◌≡◌, ◌∙◌, ◌==◌, ℕ, ◌+◌, ◌<◌, zero, suc, Bool, true, false, ◌||◌, List, [], ◌∷◌, ◌++◌, drop, length, map, get_or, None, refl, sym, ap, ap₂, arith, append-nil, Vec}
use Rattle.std.specs.Prelude.{if◌then◌else◌}
use Rattle.std.specs.List.{concat, filter, flat_map, range_with_len}
use Rattle.std.proofs.Math.Seq.{drop-cons}
use Rattle.std.proofs.lemmas.Bool.{eqb-true, true≢false}
use Rattle.std.proofs.lemmas.List.{map-append}
use Rattle.std.proofs.lemmas.List.Elements.{filter-append}
use Rattle.std.proofs.lemmas.List.Concat.{flat_map-append}
use Rattle.ga_place.specs.Node.{is_among}
use Rattle.ga_place.specs.declared.side.Side.{Side}
use Rattle.ga_chip.specs.declared.outcome.Try.{Try}
use Rattle.ga_chip.specs.Chip.{Chip}
use Rattle.ga_chip.specs.Run as run
use Rattle.ga_chip.specs.Run.{ran, side_of_turn, sides_tried, tries_of}
use Rattle.ga_chip.proofs.Runs.{ran_more}
use Rattle.ga_group.specs.Plan.{Groups, first_repeated, groups_in, plan_fault}
use Rattle.ga_group.specs.Workers.{IsWorkersRun, round_of, rounds_of}
use Rattle.ga_group.proofs.Plans.{is_new, not_behind, once}

-- the next try of a round
pub round_next : (nodes : List ℕ) (index name : ℕ) (side : Side) → index < length nodes
    → name ≡ get_or nodes index name → tries_of (round_of (drop index nodes) side)
    ≡ run.Try name side ∷ tries_of (round_of (drop (index + 1) nodes) side)
round_next nodes index name side below is =
    let next : suc index ≡ index + 1 = omega arith in
    ap (λ l. tries_of (round_of l side))
    (drop-cons nodes index name below ∙ ap₂ (λ x k. x ∷ drop k nodes) (sym is) next)

-- one number more
range_more : (from n next : ℕ) → next ≡ from + n
    → range_with_len from (suc n) ≡ range_with_len from n ++ next ∷ []
range_more from zero next e = let same : from ≡ next = omega arith in ap (λ k. k ∷ []) same
range_more from (suc n) next e =
    let later : next ≡ from + 1 + n = omega arith in
    ap (λ l. from ∷ l) (range_more (from + 1) n next later)

-- one round more
pub rounds_next : (nodes : List ℕ) (turn : ℕ)
    → rounds_of nodes (turn + 1) ≡ rounds_of nodes turn ++ round_of nodes (side_of_turn turn)
rounds_next nodes turn =
    let round : ℕ → List Try = λ at. round_of nodes (side_of_turn at) in
    let next : turn + 1 ≡ suc turn = omega arith in
    let last : turn ≡ 0 + turn = omega arith in
    ap (λ n. flat_map round (range_with_len 0 n)) next
    ∙ ap (flat_map round) (range_more 0 turn turn last)
    ∙ flat_map-append round (range_with_len 0 turn) (turn ∷ [])
    ∙ ap (λ l. rounds_of nodes turn ++ l) (append-nil (round turn))

pub ran_next : (chip : Chip) (nodes : List ℕ) (turn : ℕ)
    → ran chip (tries_of (rounds_of nodes (turn + 1))) ≡ ran
    (ran chip (tries_of (rounds_of nodes turn))) (tries_of (round_of nodes (side_of_turn turn)))
ran_next chip nodes turn =
    ap (λ l. ran chip (tries_of l)) (rounds_next nodes turn)
    ∙ ran_more chip (rounds_of nodes turn) (round_of nodes (side_of_turn turn))

-- ---- a round tries each node once

sides-append : (name : ℕ) (tries more : List Try)
    → sides_tried name (tries ++ more) ≡ sides_tried name tries ++ sides_tried name more
sides-append name tries more =
    ap (map (λ (one : Try). one.side)) (filter-append (λ (one : Try). one.node == name) tries more)
    ∙ map-append (λ (one : Try). one.side) (filter (λ one. one.node == name) tries)
    (filter (λ one. one.node == name) more)

none_in_round : (name : ℕ) (nodes : List ℕ) (side : Side) → is_among name nodes ≡ false
    → sides_tried name (round_of nodes side) ≡ []
none_in_round name [] side none = refl
none_in_round name (node ∷ nodes) side none = by (node == name) none (none_in_round name nodes side)
  where
    by : (b : Bool) → (b || is_among name nodes) ≡ false
        → (is_among name nodes ≡ false → sides_tried name (round_of nodes side) ≡ [])
        → map (λ (one : Try). one.side) (if b then record { node = node; side = side }
        ∷ filter (λ (one : Try). one.node == name) (round_of nodes side)
        else filter (λ (one : Try). one.node == name) (round_of nodes side)) ≡ []
    by true e rest = absurd (true≢false e)
    by false e rest = rest e

one_in_round : (name : ℕ) (before nodes : List ℕ) (side : Side) → first_repeated before nodes ≡ None
    → is_among name nodes ≡ true → sides_tried name (round_of nodes side) ≡ side ∷ []
one_in_round name before [] side once among = absurd (true≢false (sym among))
one_in_round name before (node ∷ nodes) side once among =
    by (node == name) refl among
    (one_in_round name (before ++ node ∷ []) nodes side (is_new before node nodes once).behind)
  where
    by : (b : Bool) → (node == name) ≡ b → (b || is_among name nodes) ≡ true
        → (is_among name nodes ≡ true → sides_tried name (round_of nodes side) ≡ side ∷ [])
        → map (λ (one : Try). one.side) (if b then record { node = node; side = side }
        ∷ filter (λ (one : Try). one.node == name) (round_of nodes side)
        else filter (λ (one : Try). one.node == name) (round_of nodes side)) ≡ side ∷ []
    by true same e rest =
        ap (λ l. side ∷ l) (none_in_round name nodes side (ap (λ n. is_among n nodes)
        (sym (eqb-true node name same)) ∙ not_behind before node nodes once))
    by false same e rest = rest e

-- and no other
once_a_round : (name : ℕ) (nodes : List ℕ) (turns : List ℕ) → first_repeated [] nodes ≡ None
    → is_among name nodes ≡ true → sides_tried name
    (flat_map (λ turn. round_of nodes (side_of_turn turn)) turns) ≡ map side_of_turn turns
once_a_round name nodes [] once among = refl
once_a_round name nodes (turn ∷ turns) once among =
    sides-append name (round_of nodes (side_of_turn turn))
    (flat_map (λ at. round_of nodes (side_of_turn at)) turns)
    ∙ ap₂ (λ a b. a ++ b) (one_in_round name [] nodes (side_of_turn turn) once among)
    (once_a_round name nodes turns once among)

never : (name : ℕ) (nodes : List ℕ) (turns : List ℕ) → is_among name nodes ≡ false
    → sides_tried name (flat_map (λ turn. round_of nodes (side_of_turn turn)) turns) ≡ []
never name nodes [] none = refl
never name nodes (turn ∷ turns) none =
    sides-append name (round_of nodes (side_of_turn turn))
    (flat_map (λ at. round_of nodes (side_of_turn at)) turns)
    ∙ ap₂ (λ a b. a ++ b) (none_in_round name nodes (side_of_turn turn) none)
    (never name nodes turns none)

-- so the rounds are a run of workers
pub alone_run : (chip : Chip) (nodes : List ℕ) (turns : ℕ) → first_repeated [] nodes ≡ None
    → IsWorkersRun chip (nodes ∷ []) turns (ran chip (tries_of (rounds_of nodes turns)))
alone_run chip nodes turns once = record {
  tries = rounds_of nodes turns;
  planned = λ name among. once_a_round name nodes (range_with_len 0 turns) once
      (ap (is_among name) (sym (append-nil nodes)) ∙ among);
  others = λ name none. never name nodes (range_with_len 0 turns)
      (ap (is_among name) (sym (append-nil nodes)) ∙ none);
  leads = refl;
}

-- ---- a plan of one group

pub one_group : {A : Type 0} (groups : List (Vec ℕ A)) (group : Vec ℕ A) → length groups ≡ 1
    → group ≡ get_or groups 0 group → groups_in groups ≡ group.items ∷ []
one_group [] group one is = absurd cc
one_group (first ∷ []) group one is = ap (λ (g : Vec ℕ _). g.items ∷ []) (sym is)
one_group (first ∷ second ∷ groups) group one is = absurd (omega (arith, one))

pub once_alone : (plan : Groups) (nodes : List ℕ) → plan ≡ nodes ∷ [] → plan_fault plan ≡ None
    → first_repeated [] nodes ≡ None
once_alone plan nodes is faultless =
    ap (first_repeated []) (sym (append-nil nodes) ∙ ap concat (sym is)) ∙ once plan faultless
