-- Turns: four of them try each node at each side, and each moves a node at most once.
use Rattle.std.proofs.Common.{◌≡◌, ℕ, zero, suc, ◌+◌, ◌*◌, ◌-◌, ◌≤◌, ◌<◌, Bool, List, [], ◌∷◌, ◌++◌, ◌⊎◌, inl, inr, flat_map, length, map, slice_index_or, take, Option, Some, None, refl, sym, ap, ap₂, ◌∙◌, subst, append-nil, append_assoc, length-append, zero-add, add-zero, zero-le, arith}
use Rattle.std.specs.Prelude.{◌%◌}
use Rattle.std.specs.List.{range_with_len}
use Rattle.std.proofs.Math.Nat.{add-mul-mod_self_right}
use Rattle.std.proofs.lemmas.Bool.{cases_eq, cases_lt, ne_eqb}
use Rattle.std.proofs.lemmas.List.{map-append}
use Rattle.std.proofs.lemmas.List.Concat.{flat_map-append}
use Rattle.std.proofs.lemmas.List.FromFn.{take-map-range_with_len}
use Rattle.ga_place.specs.Cell.{index_of, name_at}
use Rattle.ga_place.specs.Node.{IsNodeName}
use Rattle.ga_place.specs.Side.{SIDES}
use Rattle.ga_place.specs.declared.side.Side.{Side}
use Rattle.ga_place.specs.declared.side.Side.TheVariants.{Right, Down, Left, Up}
use Rattle.ga_place.proofs.Cells.{index_below, name_back}
use Rattle.ga_chip.specs.declared.outcome.Outcome.{Outcome}
use Rattle.ga_chip.specs.declared.outcome.Outcome.TheVariants.{Moved, Waits, Held, Stopped}
use Rattle.ga_chip.specs.Part.{Part}
use Rattle.ga_chip.specs.Chip.{Chip, part_of}
use Rattle.ga_chip.specs.Run.{Event, Move, Try, SetBreak, ClearBreak, PassBreak, Piece, happened, if_moved, move_in, moves, moves_of, pieces, ran, side_of_turn, turn_of, turns_of}
use Rattle.ga_chip.proofs.Runs.{moves_of-append}
use Rattle.ga_chip.proofs.Turns.{turn_end, turn_left, turn_next, turn_whole}
use Rattle.ga_chip.proofs.Moments.{one_at_most}
use Rattle.ga_race.specs.Clocks.{steps_in}
use Rattle.ga_race.proofs.Alike.{AreTries, its_move, tries_join}
use Rattle.ga_race.proofs.Round.{steps_more}

-- a number of turns, from a turn on
unfoldable pub some_turns : ℕ → ℕ → List Event
some_turns from count = flat_map (λ turn. turn_of (side_of_turn turn)) (range_with_len from count)

-- numbers in a row are split in two
range_split : (from one two : ℕ) → range_with_len from (one + two) ≡ range_with_len from one
    ++ range_with_len (from + one) two
range_split from zero two = ap₂ (λ a b. range_with_len a b) (sym (add-zero from)) (zero-add two)
range_split from (suc one) two =
    let more : suc one + two ≡ suc (one + two) = omega arith in
    let next : (from + 1) + one ≡ from + suc one = omega arith in
    ap (range_with_len from) more
    ∙ ap (λ l. from ∷ l) (range_split (from + 1) one two
    ∙ ap (λ n. range_with_len (from + 1) one ++ range_with_len n two) next)

-- a number of turns is split in two
pub turns_split : (one two : ℕ) → turns_of (one + two) ≡ turns_of one ++ some_turns one two
unfolding turns_of some_turns
turns_split one two =
    ap (flat_map (λ turn. turn_of (side_of_turn turn)))
    (range_split 0 one two
    ∙ ap (λ n. range_with_len 0 one ++ range_with_len n two) (zero-add one))
    ∙ flat_map-append (λ turn. turn_of (side_of_turn turn)) (range_with_len 0 one)
    (range_with_len one two)

-- turns that begin a multiple of four later are the same
pub same_turns : (from count fours : ℕ)
    → some_turns (from + fours * 4) count ≡ some_turns from count
unfolding some_turns
same_turns from zero fours = refl
same_turns from (suc count) fours =
    let next : (from + fours * 4) + 1 ≡ (from + 1) + fours * 4 = omega arith in
    ap₂ (λ a b. a ++ b)
    (ap (λ n. turn_of (slice_index_or SIDES n Right)) (add-mul-mod_self_right from fours 4))
    (ap (λ n. some_turns n count) next ∙ same_turns (from + 1) count fours)

-- a turn of some nodes is made of tries
turn_tries : (side : Side) (indices : List ℕ)
    → AreTries (map (λ index. Try (name_at index) side) indices)
turn_tries side [] = tt
turn_tries side (index ∷ indices) = (tt, turn_tries side indices)

-- a turn is made of tries
pub tries_of_turn : (side : Side) → AreTries (turn_of side)
unfolding turn_of
tries_of_turn side = turn_tries side (range_with_len 0 144)

-- turns from one on are made of tries
pub tries_of_turns : (from count : ℕ) → AreTries (some_turns from count)
unfolding some_turns
tries_of_turns from zero = tt
tries_of_turns from (suc count) =
    tries_join (turn_of (side_of_turn from)) (some_turns (from + 1) count)
    (tries_of_turn (side_of_turn from)) (tries_of_turns (from + 1) count)

-- turns are made of tries
pub turns_tries : (count : ℕ) → AreTries (turns_of count)
unfolding turns_of some_turns
turns_tries count = tries_of_turns 0 count

-- Tries feed no stream.
pub feed_nothing : (opened : Bool) (name : ℕ) (events : List Event) → AreTries events
    → pieces opened name events ≡ []
feed_nothing opened name [] tries = refl
feed_nothing opened name (Try other side ∷ events) tries = feed_nothing opened name events tries.1
feed_nothing opened name (SetBreak other at ∷ events) tries = absurd tries.0
feed_nothing opened name (ClearBreak other at ∷ events) tries = absurd tries.0
feed_nothing opened name (PassBreak other ∷ events) tries = absurd tries.0
feed_nothing opened name (Piece other words ∷ events) tries = absurd tries.0

-- a turn is cut at each index
turn_after : (side : Side) (index : ℕ) → index ≤ 144
    → (front : List Event) × (turn_left side 0 ≡ front ++ turn_left side index)
turn_after side zero below = ([], refl)
turn_after side (suc index) below =
    let old = turn_after side index (omega arith) in
    let next : index + 1 ≡ suc index = omega arith in (
      old.0 ++ Try (name_at index) side ∷ [],
      old.1
          ∙ ap (λ es. old.0 ++ es)
          (turn_next side index (omega arith)
          ∙ ap (λ n. Try (name_at index) side ∷ turn_left side n) next)
          ∙ sym (append_assoc old.0 (Try (name_at index) side ∷ []) (turn_left side (suc index))),
    )

-- A try of a node at a side is among some events.
pub record Tries (events : List Event) (name : ℕ) (side : Side) : Type 0 where
  pub before : List Event
  pub later : List Event
  pub cut : events ≡ before ++ Try name side ∷ later

-- a turn tries each node
turn_tries_each : (side : Side) (name : ℕ) → IsNodeName name → Tries (turn_of side) name side
turn_tries_each side name named =
    let below = index_below name named in
    let old = turn_after side (index_of name) (omega arith) in
    record {
      before = old.0;
      later = turn_left side (index_of name + 1);
      cut = sym (turn_whole side) ∙ old.1
          ∙ ap (λ es. old.0 ++ es)
          (turn_next side (index_of name) below
          ∙ ap (λ n. Try n side ∷ turn_left side (index_of name + 1)) (name_back name below));
    }

-- the number of the first turn with a side
number : Side → ℕ
number Right = 0
number Down = 1
number Left = 2
number Up = 3

-- these numbers are below four
number_small : (side : Side) → number side < 4
unfolding number
number_small Right = omega arith
number_small Down = omega arith
number_small Left = omega arith
number_small Up = omega arith

-- the turn of that number has the side
side_at : (side : Side) → slice_index_or SIDES (number side) Right ≡ side
unfolding number
side_at Right = refl
side_at Down = refl
side_at Left = refl
side_at Up = refl

-- four turns have one of each side
turn_at : (turn index : ℕ) → index < 4 → (more : ℕ) × (more < 4) × ((turn + more) % 4 ≡ index)
turn_at turn index small = by (cases_lt index (turn % 4))
  where
    by : (index < turn % 4) ⊎ (turn % 4 ≤ index)
        → (more : ℕ) × (more < 4) × ((turn + more) % 4 ≡ index)
    by (inl before) = (index + 4 - turn % 4, omega arith, omega arith)
    by (inr behind) = (index - turn % 4, omega arith, omega arith)

-- turns from one on are split in two
pub some_split : (from one two : ℕ) → some_turns from (one + two) ≡ some_turns from one
    ++ some_turns (from + one) two
unfolding some_turns
some_split from one two =
    ap (flat_map (λ turn. turn_of (side_of_turn turn))) (range_split from one two)
    ∙ flat_map-append (λ turn. turn_of (side_of_turn turn)) (range_with_len from one)
    (range_with_len (from + one) two)

-- turns from one on begin with that turn
pub some_first : (from count : ℕ) → some_turns from (suc count) ≡ turn_of (side_of_turn from)
    ++ some_turns (from + 1) count
unfolding some_turns
some_first from count = refl

-- one turn alone
turn_alone : (turn : ℕ) → some_turns turn 1 ≡ turn_of (side_of_turn turn)
unfolding some_turns
turn_alone turn = append-nil (turn_of (side_of_turn turn))

-- the first tries of a turn, with one more
pub turn_take : (side : Side) (index : ℕ) → index < 144 → take (index + 1) (turn_of side)
    ≡ take index (turn_of side) ++ Try (name_at index) side ∷ []
unfolding turn_of
turn_take side index below =
    let event : ℕ → Event = λ at. Try (name_at at) side in
    take-map-range_with_len event 0 144 (index + 1) (omega arith)
    ∙ ap (map event) (range_split 0 index 1)
    ∙ map-append event (range_with_len 0 index) (range_with_len (0 + index) 1)
    ∙ ap₂ (λ xs ys. xs ++ ys) (sym (take-map-range_with_len event 0 144 index (omega arith)))
    (ap (λ at. event at ∷ []) (zero-add index))

-- and all of them
pub turn_full : (side : Side) → take 144 (turn_of side) ≡ turn_of side
unfolding turn_of
turn_full side = take-map-range_with_len (λ at. Try (name_at at) side) 0 144 144 (omega arith)

-- turns from one on, with one more
pub turns_next : (first turn : ℕ) → first ≤ turn → some_turns first (turn - first)
    ++ take 144 (turn_of (side_of_turn turn)) ≡ some_turns first (turn + 1 - first)
turns_next first turn h =
    let at : first + (turn - first) ≡ turn = omega arith in
    let more : turn - first + 1 ≡ turn + 1 - first = omega arith in
    ap (λ es. some_turns first (turn - first) ++ es) (turn_full (side_of_turn turn)
    ∙ sym (turn_alone turn) ∙ ap (λ n. some_turns n 1) (sym at))
    ∙ sym (some_split first (turn - first) 1) ∙ ap (some_turns first) more

-- four turns try each node at each side
pub four_try_each : (from name : ℕ) (side : Side) → IsNodeName name
    → Tries (some_turns from 4) name side
four_try_each from name side named =
    let it = turn_at from (number side) (number_small side) in
    let more : ℕ = it.0 in
    let small : more < 4 = it.1 in
    let same : side_of_turn (from + more) ≡ side = ap (λ n. slice_index_or SIDES n Right) it.2
    ∙ side_at side in
    let turn = turn_tries_each side name named in
    let all : 4 ≡ more + suc (3 - more) = omega arith in
    let back : List Event = some_turns (from + more + 1) (3 - more) in
    record {
      before = some_turns from more ++ turn.before;
      later = turn.later ++ back;
      cut = ap (some_turns from) all ∙ some_split from more (suc (3 - more))
          ∙ ap (λ es. some_turns from more ++ es)
          (some_first (from + more) (3 - more) ∙ ap (λ s. turn_of s ++ back) same
          ∙ ap (λ es. es ++ back) turn.cut
          ∙ append_assoc turn.before (Try name side ∷ turn.later) back)
          ∙ sym (append_assoc (some_turns from more) turn.before
          (Try name side ∷ (turn.later ++ back)));
    }

no_move_else : (chip : Chip) (name other : ℕ) (side : Side) → (other ≡ name → ⊥)
    → moves_of name (move_in chip (Try other side)) ≡ []
no_move_else chip name other side apart = by (part_of chip other) refl
  where
    none : (o : Outcome) (m : Move) → m.node ≡ other → moves_of name (if_moved o m) ≡ []
    none Moved m e = rw (e, ne_eqb other name apart) refl
    none Waits m e = refl
    none Held m e = refl
    none Stopped m e = refl

    by : (o : Option Part) → part_of chip other ≡ o
        → moves_of name (move_in chip (Try other side)) ≡ []
    by None e = ap (moves_of name) (its_move chip other side None e)
    by (Some part) e = ap (moves_of name) (its_move chip other side (Some part) e) ∙ none _ _ refl

-- nodes at different indices have different names
one_place_each : (one two : ℕ) → one < 144 → two < 144 → name_at one ≡ name_at two → one ≡ two
one_place_each one two below below' e = omega arith

-- a run makes the steps of its first try, and the steps behind it
first_steps : (chip : Chip) (name other : ℕ) (side : Side) (rest : List Event)
    → steps_in chip (Try other side ∷ rest) name
    ≡ length (moves_of name (move_in chip (Try other side)))
    + steps_in (happened chip (Try other side)) rest name
first_steps chip name other side rest =
    ap (λ l. length l)
    (moves_of-append name (move_in chip (Try other side))
    (moves (happened chip (Try other side)) rest))
    ∙ length-append (moves_of name (move_in chip (Try other side)))
    (moves_of name (moves (happened chip (Try other side)) rest))

-- a node that isn't tried in the rest of a turn makes no step in it
none_left : (chip : Chip) (side : Side) (name left index : ℕ) → index + left ≡ 144
    → ((at : ℕ) → index ≤ at → at < 144 → name_at at ≡ name → ⊥)
    → steps_in chip (turn_left side index) name ≡ 0
none_left chip side name zero index e else =
    ap (λ es. steps_in chip es name) (turn_end side index (omega arith))
none_left chip side name (suc left) index e else =
    let next = Try (name_at index) side in
    ap (λ es. steps_in chip es name) (turn_next side index (omega arith))
    ∙ first_steps chip name (name_at index) side (turn_left side (index + 1))
    ∙ ap₂ (λ a b. a + b)
    (ap (λ l. length l)
    (no_move_else chip name (name_at index) side (else index (omega arith) (omega arith))))
    (none_left (happened chip next) side name left (index + 1) (omega arith)
    (λ at behind below. else at (omega arith) below))

-- a node makes one step at most in the rest of a turn
one_left : (chip : Chip) (side : Side) (name left index : ℕ) → index + left ≡ 144
    → steps_in chip (turn_left side index) name ≤ 1
one_left chip side name zero index e =
    subst (λ es. steps_in chip es name ≤ 1) (sym (turn_end side index (omega arith))) zero-le
one_left chip side name (suc left) index e =
    by (one_left (happened chip (Try (name_at index) side)) side name left (index + 1)
    (omega arith)) (cases_eq (name_at index) name)
  where
    split : steps_in chip (turn_left side index) name
        ≡ length (moves_of name (move_in chip (Try (name_at index) side)))
        + steps_in (happened chip (Try (name_at index) side)) (turn_left side (index + 1)) name
    split = ap (λ es. steps_in chip es name) (turn_next side index (omega arith))
        ∙ first_steps chip name (name_at index) side (turn_left side (index + 1))

    few : (moves_of name (move_in chip (Try (name_at index) side)) ≡ [])
        ⊎ ((m : Move) × (moves_of name (move_in chip (Try (name_at index) side)) ≡ m ∷ []))
        → length (moves_of name (move_in chip (Try (name_at index) side))) ≤ 1
    few (inl none) = let e' : length (moves_of name (move_in chip (Try (name_at index) side))) ≡ 0 =
        ap (λ l. length l) none in omega arith
    few (inr (m, one)) = let e' : length (moves_of name (move_in chip (Try (name_at index) side)))
        ≡ 1 = ap (λ l. length l) one in omega arith

    by : steps_in (happened chip (Try (name_at index) side)) (turn_left side (index + 1)) name ≤ 1
        → (name_at index ≡ name) ⊎ (name_at index ≡ name → ⊥)
        → steps_in chip (turn_left side index) name ≤ 1
    by rest (inl same) =
        let none = none_left (happened chip (Try (name_at index) side)) side name left (index + 1)
        (omega arith) (λ at behind below e'. let both : index ≡ at =
        one_place_each index at (omega arith) below (same ∙ sym e') in absurd (omega arith)) in
        let one = few (one_at_most chip (Try (name_at index) side) name) in
        let both = split in
        omega arith
    by rest (inr apart) =
        let none : length (moves_of name (move_in chip (Try (name_at index) side))) ≡ 0 =
        ap (λ l. length l) (no_move_else chip name (name_at index) side apart) in
        let both = split in
        omega arith

-- a node makes one step at most in a turn
pub turn_steps : (chip : Chip) (side : Side) (name : ℕ) → steps_in chip (turn_of side) name ≤ 1
turn_steps chip side name =
    subst (λ es. steps_in chip es name ≤ 1) (turn_whole side) (one_left chip side name 144 0 refl)

-- a node makes one step at most in each of some turns
some_steps : (chip : Chip) (from count name : ℕ)
    → steps_in chip (some_turns from count) name ≤ count
unfolding some_turns
some_steps chip from zero name = zero-le
some_steps chip from (suc count) name =
    let one = turn_steps chip (side_of_turn from) name in
    let old = some_steps (ran chip (turn_of (side_of_turn from))) (from + 1) count name in
    let both = steps_more chip (turn_of (side_of_turn from)) (some_turns (from + 1) count) name in
    omega arith

-- A node makes at most as many steps as there are turns.
pub turns_steps : (chip : Chip) (count name : ℕ) → steps_in chip (turns_of count) name ≤ count
unfolding turns_of some_turns
turns_steps chip count name = some_steps chip 0 count name
