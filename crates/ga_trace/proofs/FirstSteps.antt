-- A trace shows the first steps of its node.
use Rattle.std.proofs.Common.{◌≡◌, ◌∙◌, ℕ, zero, suc, ◌+◌, ◌-◌, ◌<◌, ◌≤◌, ◌==◌, ◌⊎◌, inl, inr, true, false, List, [], ◌∷◌, ◌++◌, ap, append-nil, append_assoc, arith, length, length-append, map, refl, subst, sym}
use Rattle.std.specs.Prelude.{Option, Some, None, cond, if◌then◌else◌}
use Rattle.std.specs.List.{filter, flat_map, range_with_len}
use Rattle.std.specs.Option.{option_map_or}
use Rattle.std.proofs.lemmas.Bool.{cases_eq, eq-eqb, ne_eqb}
use Rattle.std.proofs.lemmas.Grind.{flat_map-append}
use Rattle.std.proofs.lemmas.List.Elements.{filter-append}
use Rattle.ga_pack.proofs.ByCases.{on_test}
use Rattle.ga_asm.specs.Image.{ImageView}
use Rattle.ga_place.specs.Cell.{index_of, name_at}
use Rattle.ga_place.specs.inner.Index.{index_back}
use Rattle.ga_place.specs.declared.side.Side.{Side}
use Rattle.ga_node.specs.Need.{need_of}
use Rattle.ga_node.specs.State.{State}
use Rattle.ga_chip.specs.declared.outcome.Outcome.{Outcome}
use Rattle.ga_chip.specs.declared.outcome.Outcome.TheVariants.{Moved, Waits, Held, Stopped}
use Rattle.ga_chip.specs.Part.{Part, after, asks, picked_by}
use Rattle.ga_chip.specs.Chip.{Chip, found_by, part_of, state_of}
use Rattle.ga_chip.specs.Run.{Event, Move, Try, happened, if_moved, move_at, move_in, side_of_turn, turn_of, turns_of}
use Rattle.ga_observe.specs.Seen.{numbered, step_of, steps_by, steps_in, steps_seen, turns_numbered}
use Rattle.ga_observe.specs.declared.step.Step.{Step}
use Rattle.ga_observe.proofs.Watched.{turn_events, turns_steps}
use Rattle.ga_trace.specs.Last.{last_by}
use Rattle.ga_trace.specs.Laws.{FirstStepsAreShown}
use Rattle.ga_trace.specs.Stepped.{line_between, rest_line}
use Rattle.ga_trace.specs.Traced.{ShowsFirst, behind, is_over, less_by, line_in, moved_in, own_steps, quiet_after, step_in, traced, traced_from, turn_line, turned}
use Rattle.ga_trace.proofs.FirstChange.{next_is}

-- ---- the steps of a node among some

abbrev own : ℕ → List Step → List Step
own name steps = filter (λ (step : Step). step.node == name) steps

own_parts : (name : ℕ) (one more : List Step)
    → own name (one ++ more) ≡ own name one ++ own name more
own_parts name one more = filter-append (λ (step : Step). step.node == name) one more

own_here : (name : ℕ) (step : Step) → step.node ≡ name → own name (step ∷ []) ≡ step ∷ []
own_here name step e = ap (λ b. cond b (step ∷ []) []) (eq-eqb step.node name e)

own_else : (name : ℕ) (step : Step) → (step.node ≡ name → ⊥) → own name (step ∷ []) ≡ []
own_else name step e = ap (λ b. cond b (step ∷ []) []) (ne_eqb step.node name e)

-- the last of none, and of one
last_none : (name : ℕ) (found : Option Step) (steps : List Step) → own name steps ≡ []
    → last_by name found steps ≡ found
last_none name found [] = λ e. refl
last_none name found (one ∷ steps) =
    on_test (one.node == name)
    (λ b. cond b (one ∷ own name steps) (own name steps) ≡ []
    → last_by name (if b then Some one else found) steps ≡ found)
    (λ is e. absurd (cc)) (λ is e. last_none name found steps e)

last_one : (name : ℕ) (found : Option Step) (step : Step) (steps : List Step)
    → own name steps ≡ step ∷ [] → last_by name found steps ≡ Some step
last_one name found step [] = λ e. absurd (cc)
last_one name found step (one ∷ steps) =
    on_test (one.node == name)
    (λ b. cond b (one ∷ own name steps) (own name steps) ≡ step ∷ []
    → last_by name (if b then Some one else found) steps ≡ Some step)
    (λ is e.
    let none : own name steps ≡ [] = cc in
    let same : one ≡ step = cc in last_none name (Some one) steps none ∙ ap Some same)
    (λ is e. last_one name found step steps e)

-- ---- a node makes at most one step in a turn

-- there is no step, or one of a node in a turn
abbrev OneOf : ℕ → ℕ → List Step → Type 0
OneOf name turn steps =
    (steps ≡ []) ⊎ ((step : Step) × (steps ≡ step ∷ []) × (step.node ≡ name) × (step.turn ≡ turn))

abbrev steps_of : ℕ → Chip → List Move → List Step
steps_of turn chip all =
    flat_map (λ (move : Move). steps_by turn (state_of chip move.node) move) all

by_state : (turn : ℕ) (move : Move) (o : Option State)
    → OneOf move.node turn (steps_by turn o move ++ [])
by_state turn move None = inl refl
by_state turn move (Some state) = inr (step_of turn state move, refl, refl, refl)

by_outcome : (turn : ℕ) (chip : Chip) (outcome : Outcome) (move : Move)
    → OneOf move.node turn (steps_of turn chip (if_moved outcome move))
by_outcome turn chip Moved move = by_state turn move (state_of chip move.node)
by_outcome turn chip Waits move = inl refl
by_outcome turn chip Held move = inl refl
by_outcome turn chip Stopped move = inl refl

by_part : (turn : ℕ) (chip : Chip) (name : ℕ) (side : Side) (o : Option Part)
    → OneOf name turn (steps_of turn chip (move_at o chip name side))
by_part turn chip name side None = inl refl
by_part turn chip name side (Some part) =
    by_outcome turn chip (after part side (found_by (asks part side) chip.cells)).0 (record {
      node = name;
      asked = asks part side;
      found = found_by (asks part side) chip.cells;
      picked = picked_by (need_of part.state) side;
    })

of_try : (turn : ℕ) (chip : Chip) (name : ℕ) (side : Side)
    → OneOf name turn (steps_in turn chip (Try name side))
unfolding steps_in move_in
of_try turn chip name side = by_part turn chip name side (part_of chip name)

-- the tries of the nodes from an index on
abbrev tries_from : Side → ℕ → ℕ → List Event
tries_from side from n = map (λ index. Try (name_at index) side) (range_with_len from n)

-- the steps of the first of them, and those of the others
first_and_rest : (name turn : ℕ) (side : Side) (from n : ℕ) (chip : Chip)
    → own name (steps_seen chip (numbered turn (tries_from side from (suc n))))
    ≡ own name (steps_in turn chip (Try (name_at from) side))
    ++ own name (steps_seen (happened chip (Try (name_at from) side))
    (numbered turn (tries_from side (from + 1) n)))
first_and_rest name turn side from n chip =
    own_parts name (steps_in turn chip (Try (name_at from) side))
    (steps_seen (happened chip (Try (name_at from) side))
    (numbered turn (tries_from side (from + 1) n)))

-- a try of another node is no step of this one
none_there : (name turn at : ℕ) (side : Side) (chip : Chip) → (at ≡ name → ⊥)
    → own name (steps_in turn chip (Try at side)) ≡ []
none_there name turn at side chip apart = elim (of_try turn chip at side) [
  | inl none ↦ ap (own name) none
  | inr (step, one, node, then_) ↦
      ap (own name) one ∙ own_else name step (λ same. apart (sym node ∙ same))
]

none_in : (name turn : ℕ) (side : Side) (from n : ℕ) (chip : Chip)
    → ((at : ℕ) → from ≤ at → at < from + n → name_at at ≡ name → ⊥)
    → own name (steps_seen chip (numbered turn (tries_from side from n))) ≡ []
none_in name turn side from zero chip apart = refl
none_in name turn side from (suc n) chip apart =
    let next = happened chip (Try (name_at from) side) in
    first_and_rest name turn side from n chip
    ∙ ap (λ l. l ++ own name (steps_seen next (numbered turn (tries_from side (from + 1) n))))
    (none_there name turn (name_at from) side chip (apart from (omega arith) (omega arith)))
    ∙ none_in name turn side (from + 1) n next
    (λ at low high. apart at (omega (arith, low)) (omega (arith, high)))

one_in : (name turn : ℕ) (side : Side) (from n : ℕ) (chip : Chip) → from + n ≤ 144
    → OneOf name turn (own name (steps_seen chip (numbered turn (tries_from side from n))))
one_in name turn side from zero chip within = inl refl
one_in name turn side from (suc n) chip within =
    by (cases_eq (name_at from) name)
    (one_in name turn side (from + 1) n next (omega (arith, within)))
  where
    next : Chip
    next = happened chip (Try (name_at from) side)

    rest : List Step
    rest = own name (steps_seen next (numbered turn (tries_from side (from + 1) n)))

    first : List Step
    first = own name (steps_in turn chip (Try (name_at from) side))

    whole : own name (steps_seen chip (numbered turn (tries_from side from (suc n))))
        ≡ first ++ rest
    whole = first_and_rest name turn side from n chip

    no_rest : name_at from ≡ name → rest ≡ []
    no_rest same =
        none_in name turn side (from + 1) n next
        (λ at low high also.
        let back = index_back at (omega (arith, high, within)) in
        let here = index_back from (omega (arith, within)) in
        let equal : at ≡ from = sym back ∙ ap index_of (also ∙ sym same) ∙ here in
        omega (arith, low, equal))

    by : (name_at from ≡ name) ⊎ (name_at from ≡ name → ⊥) → OneOf name turn rest
        → OneOf name turn
        (own name (steps_seen chip (numbered turn (tries_from side from (suc n)))))
    by (inl same) others =
        subst (OneOf name turn)
        (sym (whole ∙ ap (λ l. first ++ l) (no_rest same) ∙ append-nil first))
        (elim (of_try turn chip (name_at from) side) [
          | inl none ↦ inl (ap (own name) none)
          | inr (step, one, node, in_turn) ↦
              let of_node : step.node ≡ name = node ∙ same in
              inr (step, ap (own name) one ∙ own_here name step of_node, of_node, in_turn)
        ])
    by (inr apart) others =
        subst (OneOf name turn)
        (sym (whole ∙ ap (λ l. l ++ rest)
        (none_there name turn (name_at from) side chip apart))) others

one_in_turn : (name turn : ℕ) (chip : Chip)
    → OneOf name turn (own name (steps_seen chip (turn_events turn)))
unfolding turn_of
one_in_turn name turn chip = one_in name turn (side_of_turn turn) 0 144 chip (omega arith)

-- ---- turn by turn

-- the steps of one turn more
own_next : (name : ℕ) (chip now : Chip) (turn : ℕ) → now ≡ behind chip turn
    → own_steps name chip (suc turn)
    ≡ own_steps name chip turn ++ own name (steps_seen now (turn_events turn))
own_next name chip now turn is =
    let one : suc turn ≡ turn + 1 = omega arith in
    ap (own_steps name chip) one ∙ ap (own name) (sym (turns_steps chip now turn is))
    ∙ own_parts name (steps_seen chip (turns_numbered turn)) (steps_seen now (turn_events turn))

-- the line of a step, by the chip in front of its turn
line_now : (images : List (ℕ × ImageView)) (name : ℕ) (chip now : Chip) (turn : ℕ) (step : Step)
    → now ≡ behind chip turn → step.node ≡ name → step.turn ≡ turn
    → line_between images step (state_of now name) (state_of (turned turn now) name)
    ≡ line_in images chip step
line_now images name chip now turn step is node in_turn =
    ap (λ next. line_between images step (state_of now name) (state_of next name))
    (next_is chip now turn is)
    ∙ ap (λ c. line_between images step (state_of c name)
    (state_of (behind chip (suc turn)) name)) is
    ∙ ap (λ n. line_between images step (state_of (behind chip turn) n)
    (state_of (behind chip (suc turn)) n)) (sym node)
    ∙ ap (λ t. line_between images step (state_of (behind chip t) step.node)
    (state_of (behind chip (suc t)) step.node)) (sym in_turn)

-- What is written in a turn, and how many steps are left, by the node's steps in it.
pub record Writes (images : List (ℕ × ImageView)) (name turn steps : ℕ) (chip now : Chip)
    (more : List Step) : Type 0 where
  pub text : turn_line images name turn now ≡ flat_map (line_in images chip) more
  pub left : length more + less_by steps (step_in name turn now) ≡ steps

writes : (images : List (ℕ × ImageView)) (name turn steps : ℕ) (chip now : Chip)
    → now ≡ behind chip turn → (steps ≡ 0 → ⊥)
    → Writes images name turn steps chip now (own name (steps_seen now (turn_events turn)))
writes images name turn steps chip now is some = by (one_in_turn name turn now)
  where
    more : List Step
    more = own name (steps_seen now (turn_events turn))

    line : Option Step → List ℕ
    line made =
        option_map_or (λ step. line_between images step (state_of now name)
        (state_of (turned turn now) name)) made []

    by : OneOf name turn more → Writes images name turn steps chip now more
    by (inl none) =
        let made : step_in name turn now ≡ None =
        last_none name None (steps_seen now (turn_events turn)) none in
        let count : length more ≡ 0 = ap length none in
        let same : less_by steps (step_in name turn now) ≡ steps =
        ap (less_by steps) made in record {
          text = ap line made ∙ sym (ap (flat_map (line_in images chip)) none);
          left = omega (arith, count, same);
        }
    by (inr (step, one, node, in_turn)) =
        let made : step_in name turn now ≡ Some step =
        last_one name None step (steps_seen now (turn_events turn)) one in
        let count : length more ≡ 1 = ap length one in
        let less : less_by steps (step_in name turn now) ≡ steps - 1 =
        ap (less_by steps) made in record {
          text = ap line made ∙ line_now images name chip now turn step is node in_turn
              ∙ sym (append-nil (line_in images chip step))
              ∙ sym (ap (flat_map (line_in images chip)) one);
          left = omega (arith, count, less, some);
        }

-- all steps are made if none is left
no_more : (made left steps : ℕ) → made + left ≡ steps → left ≡ 0 → (made == steps) ≡ true
no_more made left steps all none = eq-eqb made steps (omega (arith, all, none))

some_more : (made left steps : ℕ) → made + left ≡ steps → (left ≡ 0 → ⊥) → (made == steps) ≡ false
some_more made left steps all some = ne_eqb made steps (λ same. some (omega (arith, all, same)))

-- where a trace ends
ends : (images : List (ℕ × ImageView)) (name steps turn left : ℕ) (chip now : Chip)
    → now ≡ behind chip turn → length (own_steps name chip turn) + left ≡ steps
    → ShowsFirst images name steps chip (flat_map (line_in images chip) (own_steps name chip turn)
    ++ (if left == 0 then [] else rest_line name now)) now
ends images name steps turn left chip now is all = record {
  turns = turn;
  made = is;
  most = omega (arith, all);
  lines = ap (λ b. flat_map (line_in images chip) (own_steps name chip turn)
      ++ (if b then [] else rest_line name now)) (alike (cases_eq left 0));
}
  where
    alike : (left ≡ 0) ⊎ (left ≡ 0 → ⊥)
        → (left == 0) ≡ (length (own_steps name chip turn) == steps)
    alike (inl none) =
        eq-eqb left 0 none ∙ sym (no_more (length (own_steps name chip turn)) left steps all none)
    alike (inr some) =
        ne_eqb left 0 some ∙ sym (some_more (length (own_steps name chip turn)) left steps all some)

-- The text of a trace, behind the lines of the steps that are made.
abbrev Shows : List (ℕ × ImageView) → ℕ → ℕ → Chip → ℕ → List ℕ × Chip → Type 0
Shows images name steps chip turn rest =
    ShowsFirst images name steps chip
    (flat_map (line_in images chip) (own_steps name chip turn) ++ rest.0) rest.1

shows : (images : List (ℕ × ImageView)) (name steps : ℕ) (chip : Chip)
    (most turn quiet left : ℕ) (now : Chip) → now ≡ behind chip turn
    → length (own_steps name chip turn) + left ≡ steps
    → Shows images name steps chip turn (traced_from images name most turn quiet left now)
unfolding traced_from
shows images name steps chip zero turn quiet left now is all =
    ends images name steps turn left chip now is all
shows images name steps chip (suc most) turn quiet left now is all =
    by (cases_eq left 0)
    (λ some. shows images name steps chip most (suc turn) (quiet_after quiet (moved_in turn now))
    (less_by left (step_in name turn now)) (turned turn now) (next_is chip now turn is)
    (counts some))
  where
    line : Step → List ℕ
    line = line_in images chip

    made : List Step
    made = own_steps name chip turn

    more : List Step
    more = own name (steps_seen now (turn_events turn))

    rest : List ℕ × Chip
    rest =
        traced_from images name most (suc turn) (quiet_after quiet (moved_in turn now))
        (less_by left (step_in name turn now)) (turned turn now)

    next : own_steps name chip (suc turn) ≡ made ++ more
    next = own_next name chip now turn is

    counts : (left ≡ 0 → ⊥)
        → length (own_steps name chip (suc turn)) + less_by left (step_in name turn now) ≡ steps
    counts some =
        let count : length (own_steps name chip (suc turn)) ≡ length made + length more =
        ap length next ∙ length-append made more in
        let fewer = (writes images name turn left chip now is some).left in
        omega (arith, count, fewer, all)

    further : (left ≡ 0 → ⊥) → Shows images name steps chip (suc turn) rest
        → Shows images name steps chip turn (turn_line images name turn now ++ rest.0, rest.1)
    further some later =
        let written = (writes images name turn left chip now is some).text in
        let text : flat_map line (own_steps name chip (suc turn)) ++ rest.0
        ≡ flat_map line made ++ (turn_line images name turn now ++ rest.0) =
        ap (λ l. flat_map line l ++ rest.0) next
        ∙ ap (λ l. l ++ rest.0) (flat_map-append line made more)
        ∙ append_assoc (flat_map line made) (flat_map line more) rest.0
        ∙ ap (λ l. flat_map line made ++ (l ++ rest.0)) (sym written) in
        subst (λ t. ShowsFirst images name steps chip t rest.1) text later

    stop : (left ≡ 0 → ⊥) → Shows images name steps chip turn (rest_line name now, now)
    stop some =
        subst (λ b. ShowsFirst images name steps chip (flat_map line made
        ++ (if b then [] else rest_line name now)) now) (ne_eqb left 0 some)
        (ends images name steps turn left chip now is all)

    by : (left ≡ 0) ⊎ (left ≡ 0 → ⊥)
        → ((left ≡ 0 → ⊥) → Shows images name steps chip (suc turn) rest)
        → Shows images name steps chip turn (traced_from images name (suc most) turn quiet left now)
    by (inl none) later =
        subst (λ b. Shows images name steps chip turn (if b then ([], now)
        else if is_over name quiet now then (rest_line name now, now)
        else (turn_line images name turn now ++ rest.0, rest.1))) (sym (eq-eqb left 0 none))
        (subst (λ b. ShowsFirst images name steps chip (flat_map line made
        ++ (if b then [] else rest_line name now)) now) (eq-eqb left 0 none)
        (ends images name steps turn left chip now is all))
    by (inr some) later =
        subst (λ b. Shows images name steps chip turn (if b then ([], now)
        else if is_over name quiet now then (rest_line name now, now)
        else (turn_line images name turn now ++ rest.0, rest.1))) (sym (ne_eqb left 0 some))
        (on_test (is_over name quiet now)
        (λ b. Shows images name steps chip turn (if b then (rest_line name now, now)
        else (turn_line images name turn now ++ rest.0, rest.1)))
        (λ over. stop some) (λ going. further some (later some)))

pub are_shown : FirstStepsAreShown
unfolding traced turns_of turns_numbered
are_shown images name steps chip =
    shows images name steps chip 1000000 0 0 steps chip refl (omega arith)
