-- A race of some turns is one of the run from the beginning of the turn of its take.
use Rattle.std.proofs.Common.{◌≡◌, ℕ, zero, suc, ◌+◌, ◌*◌, ◌-◌, ◌<◌, ◌≤◌, Bool, true, false, List, [], ◌∷◌, ◌++◌, ◌⊎◌, inl, inr, length, take, drop, map, Option, Some, None, refl, sym, ap, ap₂, ◌∙◌, subst, append-nil, append_assoc, length-append, zero-add, arith}
use Rattle.std.specs.Prelude.{IsSome, ◌==◌, ◌&&◌, nat_lt, if◌then◌else◌, is_some, option_and_then}
use Rattle.std.specs.List.{flat_map, range_with_len}
use Rattle.std.specs.Option.{option_map_or}
use Rattle.std.proofs.lemmas.Bool.{and_from, and_parts, cases_lt, eq-eqb, eqb-true, or_cases, or_left, or_right}
use Rattle.std.proofs.lemmas.List.{append_cancel_left, map-append, take-append-drop}
use Rattle.std.proofs.lemmas.List.FromFn.{length-map-range_with_len, take-map-range_with_len}
use Rattle.std.proofs.lemmas.Option.{same_Some}
use Rattle.ga_place.specs.Cell.{index_of, name_at}
use Rattle.ga_place.specs.inner.Index.{index_back}
use Rattle.ga_place.specs.declared.side.Side.{Side}
use Rattle.ga_chip.specs.Chip.{Chip, part_of, pending}
use Rattle.ga_chip.specs.Legal.{IsLegal}
use Rattle.ga_chip.specs.Run.{Event, Move, Try, move_in, moves, moves_of, ran, side_of_turn, turn_of, turns_of}
use Rattle.ga_chip.proofs.Kept.{legal_ran}
use Rattle.ga_chip.proofs.Runs.{moves-append, ran-append}
use Rattle.ga_observe.specs.Laws.{events_in}
use Rattle.ga_observe.specs.Seen.{numbered, turns_numbered}
use Rattle.ga_observe.proofs.Watched.{turn_events, unnumbered}
use Rattle.ga_race.specs.Clocks.{clocks, clocks_on, no_clocks, steps_in}
use Rattle.ga_race.specs.Details.{ComesWith, IsRaceOf}
use Rattle.ga_race.specs.Differs.{HasRace, PostsApart}
use Rattle.ga_race.specs.Races.{LeavesOut}
use Rattle.ga_race.specs.inner.Way.{is_later, later_post}
use Rattle.ga_race.specs.declared.found.Post.{Post}
use Rattle.ga_race.specs.declared.found.Race.{Race}
use Rattle.ga_race.proofs.Causes.{clocks_on-append}
use Rattle.ga_race.proofs.Differs.{is_taken, steps_append}
use Rattle.ga_race.proofs.Finding.{IsInTurn, IsPostShown, IsShown}
use Rattle.ga_race.proofs.Details.{below as less_by}
use Rattle.ga_race.proofs.Following.{below}
use Rattle.ga_race.proofs.Prefixes.{next_of, steps_earlier}
use Rattle.ga_race.proofs.Shifted.{Ahead, shifted_from}
use Rattle.ga_race.proofs.Trying.{tried_move}
use Rattle.ga_race.proofs.TurnLists.{some_first, some_split, some_turns, turn_full, turn_steps, turn_take, turns_next}

-- ---- lists

-- a row of values is cut at a place
cut_row : {A : Type 0} (f : ℕ → A) (from n : ℕ) (front back : List A) (x : A)
    → map f (range_with_len from n) ≡ front ++ x ∷ back
    → (length front < n) × (front ≡ map f (range_with_len from (length front)))
    × (x ≡ f (from + length front))
cut_row f from zero [] back x e = cc
cut_row f from zero (y ∷ front) back x e = cc
cut_row f from (suc n) [] back x e =
    let same : f from ≡ x = cc in
    let here : from ≡ from + 0 = omega arith in
    (omega arith, refl, sym same ∙ ap f here)
cut_row f from (suc n) (y ∷ front) back x e =
    let same : f from ≡ y = cc in
    let rest : map f (range_with_len (from + 1) n) ≡ front ++ x ∷ back = cc in
    let it = cut_row f (from + 1) n front back x rest in
    let there : from + 1 + length front ≡ from + length (y ∷ front) = omega arith in
    (omega (arith, it.0), ap₂ (λ z zs. z ∷ zs) (sym same) it.1, it.2 ∙ ap f there)

-- two lists in a row are cut in the first or in the second
cut_both : {A : Type 0} (one two front back : List A) (x : A) → one ++ two ≡ front ++ x ∷ back
    → ((rest : List A) × (one ≡ front ++ x ∷ rest))
    ⊎ ((rest : List A) × (front ≡ one ++ rest) × (two ≡ rest ++ x ∷ back))
cut_both [] two front back x e = inr (front, refl, e)
cut_both (y ∷ one) two [] back x e =
    let same : y ≡ x = cc in inl (one, ap (λ z. z ∷ one) same)
cut_both {A = A} (y ∷ one) two (z ∷ front) back x e = by (cut_both one two front back x rest)
  where
    same : y ≡ z
    same = cc

    rest : one ++ two ≡ front ++ x ∷ back
    rest = cc

    by : ((more : List A) × (one ≡ front ++ x ∷ more))
        ⊎ ((more : List A) × (front ≡ one ++ more) × (two ≡ more ++ x ∷ back))
        → ((more : List A) × (y ∷ one ≡ (z ∷ front) ++ x ∷ more))
        ⊎ ((more : List A) × (z ∷ front ≡ (y ∷ one) ++ more) × (two ≡ more ++ x ∷ back))
    by (inl (more, f)) = inl (more, ap₂ (λ z zs. z ∷ zs) same f)
    by (inr (more, f, g)) = inr (more, ap₂ (λ z zs. z ∷ zs) (sym same) f, g)

-- ---- where an event is in some turns

-- Behind these events of a number of turns, from one on, an event is the try of a node in a turn.
record IsPlaced (from count : ℕ) (before : List Event) (event : Event) (turn : ℕ) : Type 0 where
  index : ℕ
  small : index < 144
  after : from ≤ turn
  within : turn < from + count
  before_is : before
      ≡ some_turns from (turn - from) ++ take index (turn_of (side_of_turn turn))
  event_is : event ≡ Try (name_at index) (side_of_turn turn)

-- an event of numbered events has their number
one_number : (turn other : ℕ) (events : List Event) (front back : List (ℕ × Event)) (event : Event)
    → numbered turn events ≡ front ++ (other, event) ∷ back → other ≡ turn
one_number turn other [] [] back event e = cc
one_number turn other [] (y ∷ front) back event e = cc
one_number turn other (x ∷ events) [] back event e =
    let same : (turn, x) ≡ (other, event) = cc in sym (ap (λ (one : ℕ × Event). one.0) same)
one_number turn other (x ∷ events) (y ∷ front) back event e =
    one_number turn other events front back event cc

-- in the first turn
placed_here : (from count : ℕ) (front back : List (ℕ × Event)) (event : Event) (turn : ℕ)
    → turn_events from ≡ front ++ (turn, event) ∷ back
    → IsPlaced from (suc count) (events_in front) event turn
unfolding turn_of some_turns
placed_here from count front back event turn e =
    subst (IsPlaced from (suc count) (events_in front) event) (sym same) (record {
      index = index;
      small = it.0;
      after = omega arith;
      within = omega arith;
      before_is = it.1
          ∙ sym (take-map-range_with_len try 0 144 index (omega (arith, it.0)))
          ∙ ap (λ n. some_turns from n ++ take index (turn_of (side_of_turn from))) no_turns;
      event_is = it.2 ∙ ap try (zero-add index);
    })
  where
    same : turn ≡ from
    same = one_number from turn (turn_of (side_of_turn from)) front back event e

    try : ℕ → Event
    try at = Try (name_at at) (side_of_turn from)

    plain : turn_of (side_of_turn from) ≡ events_in front ++ event ∷ events_in back
    plain =
        sym (unnumbered from (turn_of (side_of_turn from))) ∙ ap events_in e
        ∙ map-append (λ (one : ℕ × Event). one.1) front ((turn, event) ∷ back)

    index : ℕ
    index = length (events_in front)

    it : (index < 144) × (events_in front ≡ map try (range_with_len 0 index))
        × (event ≡ try (0 + index))
    it = cut_row try 0 144 (events_in front) (events_in back) event plain

    no_turns : 0 ≡ from - from
    no_turns = omega arith

-- and in any
placed : (from count : ℕ) (before : List Event) (event : Event) (turn : ℕ)
    → IsInTurn (flat_map turn_events (range_with_len from count)) before event turn
    → IsPlaced from count before event turn
placed from zero before event turn i = none i.front i.cut
  where
    none : (front : List (ℕ × Event)) → [] ≡ front ++ (turn, event) ∷ i.back
        → IsPlaced from 0 before event turn
    none [] e = cc
    none (y ∷ front) e = cc
placed from (suc count) before event turn i =
    subst (λ es. IsPlaced from (suc count) es event turn) i.front_is
    (by (cut_both (turn_events from) (flat_map turn_events (range_with_len (from + 1) count))
    i.front i.back (turn, event) i.cut)
    (λ rest e. placed (from + 1) count (events_in rest) event turn (record {
      front = rest;
      back = i.back;
      cut = e;
      front_is = refl;
    })))
  where
    by : ((rest : List (ℕ × Event)) × (turn_events from ≡ i.front ++ (turn, event) ∷ rest))
        ⊎ ((rest : List (ℕ × Event)) × (i.front ≡ turn_events from ++ rest)
        × (flat_map turn_events (range_with_len (from + 1) count) ≡ rest ++ (turn, event) ∷ i.back))
        → ((rest : List (ℕ × Event))
        → flat_map turn_events (range_with_len (from + 1) count) ≡ rest ++ (turn, event) ∷ i.back
        → IsPlaced (from + 1) count (events_in rest) event turn)
        → IsPlaced from (suc count) (events_in i.front) event turn
    by (inl (rest, e)) goes = placed_here from count i.front rest event turn e
    by (inr (rest, e, f)) goes =
        let later = goes rest f in
        let more : suc (turn - (from + 1)) ≡ turn - from = omega (arith, later.after) in
        record {
          index = later.index;
          small = later.small;
          after = omega (arith, later.after);
          within = omega (arith, later.within);
          before_is = ap events_in e
              ∙ map-append (λ (one : ℕ × Event). one.1) (turn_events from) rest
              ∙ ap₂ (λ es fs. es ++ fs) (unnumbered from (turn_of (side_of_turn from)))
              later.before_is ∙ sym (append_assoc (turn_of (side_of_turn from)) _ _)
              ∙ ap (λ es. es ++ take later.index (turn_of (side_of_turn turn)))
              (sym (some_first from (turn - (from + 1))) ∙ ap (some_turns from) more);
          event_is = later.event_is;
        }

-- in turns from the first on
placed_first : (count : ℕ) (before : List Event) (event : Event) (turn : ℕ)
    → IsInTurn (turns_numbered count) before event turn → IsPlaced 0 count before event turn
unfolding turns_numbered
placed_first count before event turn i = placed 0 count before event turn i

-- turns have this many events
long_turns : (from n : ℕ) → length (some_turns from n) ≡ 144 * n
unfolding some_turns turn_of
long_turns from zero = refl
long_turns from (suc n) =
    let rest = long_turns (from + 1) n in
    let one = length-map-range_with_len (λ index. Try (name_at index) (side_of_turn from)) 0 144 in
    let all = length-append (turn_of (side_of_turn from)) (some_turns (from + 1) n) in
    omega arith

-- ---- the run of a race

-- a post that is shown as later than the take is in that turn or a later one
not_before : (race : Race) (post : Post) → later_post race ≡ Some post
    → race.take.turn ≤ post.turn
not_before race post e = by race.left_out.post e
  where
    late : (one : Post) → is_later race one ≡ true → race.take.turn ≤ one.turn
    late one h = by (or_cases _ _ h)
      where
        by : (nat_lt race.take.turn one.turn ≡ true)
            ⊎ ((one.turn == race.take.turn && nat_lt (index_of race.take.reader)
            (index_of race.left_out.writer)) ≡ true) → race.take.turn ≤ one.turn
        by (inl less) = let h = less_by race.take.turn one.turn less in omega arith
        by (inr same) =
            let h : one.turn ≡ race.take.turn =
            eqb-true one.turn race.take.turn (and_parts _ _ same).0 in omega arith

    by_test : (one : Post) (b : Bool) → is_later race one ≡ b
        → (if b then Some one else None) ≡ Some post → race.take.turn ≤ post.turn
    by_test one true h f =
        subst (λ (it : Post). race.take.turn ≤ it.turn) (same_Some one post f) (late one h)
    by_test one false h f = cc

    by : (o : Option Post)
        → option_and_then (λ one. if is_later race one then Some one else None) o ≡ Some post
        → race.take.turn ≤ post.turn
    by None f = cc
    by (Some one) f = by_test one (is_later race one) refl f

-- The run in which a race comes about, from the beginning of the turn of its take: up to the take
-- or, if the word that the take leaves out is posted later, to the end of the turn of the post.
abbrev run_by : Race → Option Post → List Event
run_by race later =
    let last : ℕ = option_map_or (λ (post : Post). post.turn) later race.take.turn in
    some_turns race.take.turn (last - race.take.turn)
    ++ take (if is_some later then 144 else index_of race.take.reader + 1)
    (turn_of (side_of_turn last))

abbrev pub run_of : Race → List Event
run_of race = run_by race (later_post race)

-- with a later post it has all turns up to that of the post
run_later : (race : Race) (post : Post) → later_post race ≡ Some post
    → run_of race ≡ some_turns race.take.turn (post.turn + 1 - race.take.turn)
run_later race post e =
    ap (run_by race) e ∙ turns_next race.take.turn post.turn (not_before race post e)

-- in any case it has the try of the reader
run_takes : (race : Race) (index : ℕ) → index < 144 → index ≡ index_of race.take.reader
    → (later : List Event) × (run_of race ≡ take index (turn_of (side_of_turn race.take.turn))
    ++ Try (name_at index) (side_of_turn race.take.turn) ∷ later)
unfolding some_turns
run_takes race index small is = by (later_post race) refl
  where
    turn : List Event
    turn = turn_of (side_of_turn race.take.turn)

    try : Event
    try = Try (name_at index) (side_of_turn race.take.turn)

    front : (more : List Event)
        → take (index + 1) turn ++ more ≡ take index turn ++ try ∷ more
    front more =
        ap (λ es. es ++ more) (turn_take (side_of_turn race.take.turn) index small)
        ∙ append_assoc (take index turn) (try ∷ []) more

    by : (o : Option Post) → later_post race ≡ o
        → (later : List Event) × (run_of race ≡ take index turn ++ try ∷ later)
    by None e =
        let no_turns : race.take.turn - race.take.turn ≡ 0 = omega arith in (
          [],
          ap (run_by race) e
              ∙ ap (λ n. some_turns race.take.turn n ++ take (index_of race.take.reader + 1) turn)
              no_turns ∙ ap (λ n. take (n + 1) turn) (sym is) ∙ sym (append-nil _) ∙ front [],
        )
    by (Some post) e =
        let late = not_before race post e in
        let many : post.turn + 1 - race.take.turn ≡ suc (post.turn - race.take.turn) =
        omega arith in
        let more : List Event = some_turns (race.take.turn + 1) (post.turn - race.take.turn) in (
          drop (index + 1) turn ++ more,
          run_later race post e
              ∙ ap (some_turns race.take.turn) many
              ∙ some_first race.take.turn (post.turn - race.take.turn)
              ∙ ap (λ es. es ++ more) (sym (take-append-drop (index + 1) turn))
              ∙ append_assoc (take (index + 1) turn) (drop (index + 1) turn) more
              ∙ front (drop (index + 1) turn ++ more),
        )

-- ---- the race

-- A chip has this race ahead: the events, which are to come, have it, and the race's take is the
-- first step of its reader.
pub record IsAhead (chip : Chip) (events : List Event) (race : Race) : Type 0 where
  pub found : HasRace chip events
  pub is : IsRaceOf chip events found race
  pub first : steps_in chip found.before race.take.reader ≡ 0

-- turns counted from the first on
turns_are : (count : ℕ) → some_turns 0 count ≡ turns_of count
unfolding some_turns turns_of
turns_are count = refl

-- how many events there are before one
long_place : (count : ℕ) (before : List Event) (event : Event) (turn : ℕ)
    (p : IsPlaced 0 count before event turn) → length before ≡ 144 * turn + p.index
unfolding turn_of
long_place count before event turn p =
    let at : turn - 0 ≡ turn = omega arith in
    let try : ℕ → Event = λ index. Try (name_at index) (side_of_turn turn) in
    ap (λ es. length es) p.before_is ∙ length-append (some_turns 0 (turn - 0)) _
    ∙ ap₂ (λ a b. a + b) (long_turns 0 (turn - 0) ∙ ap (λ n. 144 * n) at)
    (ap (λ es. length es) (take-map-range_with_len try 0 144 p.index (omega (arith, p.small)))
    ∙ length-map-range_with_len try 0 p.index)

-- the node of a move that a try is
node_tried : (chip : Chip) (event : Event) (m : Move) (name : ℕ) (side : Side)
    → event ≡ Try name side → move_in chip event ≡ m ∷ [] → m.node ≡ name
node_tried chip event m name side is made =
    ap (λ x. x.node) (tried_move chip name side m (ap (move_in chip) (sym is) ∙ made)).is

-- what is less than a sum is less behind the steps before
less_short : (s long short most one : ℕ) → Ahead s long short → long < most → most ≡ s + one
    → 1 ≤ one → short < one
less_short s long short most one a less e some = by (cases_lt 0 short)
  where
    by : (0 < short) ⊎ (short ≤ 0) → short < one
    by (inl more) = let h = a.lower (omega arith) in omega arith
    by (inr none) = omega arith

module _ (start : Chip) (turns : ℕ) (race : Race) (legal : IsLegal start)
    (s : IsShown start (turns_numbered turns) race) where
  abbrev name : ℕ
  name = s.found.name

  abbrev cell : ℕ
  cell = s.found.cell

  abbrev event : Event
  event = s.found.event

  -- the turn of the take, and the turns before it
  abbrev turn : ℕ
  turn = race.take.turn

  abbrev it : List Event
  it = turn_of (side_of_turn turn)

  abbrev front : List Event
  front = turns_of turn

  abbrev now : Chip
  now = ran start front

  at : IsPlaced 0 turns s.found.before event turn
  at = placed_first turns s.found.before event turn s.take

  -- what of the turn comes before the take
  abbrev first : List Event
  first = take at.index it

  before_is : s.found.before ≡ front ++ first
  before_is =
      let all : turn - 0 ≡ turn = omega arith in
      at.before_is ∙ ap (λ es. es ++ first) (ap (some_turns 0) all ∙ turns_are turn)

  leads : ran start s.found.before ≡ ran now first
  leads = ap (ran start) before_is ∙ ran-append start front first

  abbrev l : LeavesOut (ran start s.found.before) event name cell
  l = s.found.leaves

  leaves : LeavesOut (ran now first) event name cell
  leaves = record {
    part = l.part;
    there = ap (λ c. part_of c name) (sym leads) ∙ l.there;
    move = l.move;
    made = ap (λ c. moves_of name (move_in c event)) (sym leads) ∙ l.made;
    taken = l.taken;
    picked = l.picked;
    left_out = l.left_out;
    apart = l.apart;
    among = l.among;
    reads = l.reads;
  }

  -- the place of the reader
  index_is : at.index ≡ index_of race.take.reader
  index_is =
      let t = is_taken (ran start s.found.before) event name cell l
      (legal_ran start s.found.before legal) in
      sym (index_back at.index at.small)
      ∙ ap index_of (sym (node_tried (ran start s.found.before) event l.move (name_at at.index)
      (side_of_turn turn) at.event_is t.made) ∙ sym t.its ∙ sym s.is.reader)

  -- the reader's steps with its take
  one_more : steps_in now (first ++ event ∷ []) name ≡ steps_in now first name + 1
  unfolding leaves
  one_more =
      ap (λ ms. length ms) (next_of now first event name
      ∙ ap (λ ms. moves_of name (moves now first) ++ ms) leaves.made)
      ∙ length-append (moves_of name (moves now first)) (l.move ∷ [])

  -- which is its first one in the turn
  none : steps_in now first race.take.reader ≡ 0
  none =
      let taken : take (at.index + 1) it ≡ first ++ event ∷ [] =
      turn_take (side_of_turn turn) at.index at.small
      ∙ ap (λ e. first ++ e ∷ []) (sym at.event_is) in
      let few : steps_in now it name ≤ 1 = turn_steps now (side_of_turn turn) name in
      let less : steps_in now (first ++ event ∷ []) name ≤ steps_in now it name =
      subst (λ es. steps_in now es name ≤ steps_in now it name) taken
      (subst (λ es. steps_in now (take (at.index + 1) it) name ≤ steps_in now es name)
      (take-append-drop (at.index + 1) it)
      (steps_earlier now (take (at.index + 1) it) (drop (at.index + 1) it) name)) in
      let zero_steps : steps_in now first name ≡ 0 = omega (arith, one_more) in
      ap (steps_in now first) s.is.reader ∙ zero_steps

  -- so the run of the race has it
  make : (later : List Event) → run_of race ≡ first ++ event ∷ later
      → IsSome (pending (ran now first) cell) ⊎ PostsApart now first event later name cell
      → ComesWith now first event later name cell race.left_out.word
      → IsAhead now (run_of race) race
  unfolding leaves
  make later cut comes with_word = record {
    found = record {
      before = first;
      event = event;
      later = later;
      cut = cut;
      name = name;
      cell = cell;
      leaves = leaves;
      comes = comes;
    };
    is = record {
      reader = s.is.reader;
      number = s.is.number;
      place = s.is.place;
      p = s.is.p;
      sides = s.is.sides;
      taken = s.is.taken;
      word = s.is.word;
      writer = s.is.writer;
      left_out = s.is.left_out;
      comes = with_word;
      other_writer = s.is.other_writer;
    };
    first = none;
  }

  -- A WORD IS PENDING
  of_pending : pending (ran start s.found.before) cell ≡ Some race.left_out.word
      → IsAhead now (run_of race) race
  of_pending is =
      let there = ap (λ c. pending c cell) (sym leads) ∙ is in
      let all = run_takes race at.index at.small index_is in
      make all.0 (all.1 ∙ ap (λ e. first ++ e ∷ all.0) (sym at.event_is))
      (inl (ap is_some there)) (inl there)

  -- A WORD IS POSTED
  module _ (p : PostsApart start s.found.before event s.found.later name cell) (post : Post)
      (when : race.left_out.post ≡ Some post) (writer : p.posts.move.node ≡ race.left_out.writer)
      (in_turn : IsInTurn (turns_numbered turns) (s.found.before ++ event ∷ p.mid) p.post
      post.turn) where
    abbrev behind_take : List Event
    behind_take = first ++ event ∷ p.mid

    there : IsPlaced 0 turns (s.found.before ++ event ∷ p.mid) p.post post.turn
    there = placed_first turns (s.found.before ++ event ∷ p.mid) p.post post.turn in_turn

    behind_is : s.found.before ++ event ∷ p.mid ≡ front ++ behind_take
    behind_is =
        ap (λ es. es ++ event ∷ p.mid) before_is ∙ append_assoc front first (event ∷ p.mid)

    apart_leads : ran start (s.found.before ++ event ∷ p.mid) ≡ ran now behind_take
    apart_leads = ap (ran start) behind_is ∙ ran-append start front behind_take

    -- the post comes later
    writer_is : there.index ≡ index_of race.left_out.writer
    writer_is =
        sym (index_back there.index there.small)
        ∙ ap index_of (sym (node_tried (ran start (s.found.before ++ event ∷ p.mid)) p.post
        p.posts.move (name_at there.index) (side_of_turn post.turn) there.event_is p.posts.made)
        ∙ writer)

    later : is_later race post ≡ true
    later = by (cases_lt turn post.turn)
      where
        long : 144 * post.turn + there.index ≡ 144 * turn + at.index + suc (length p.mid)
        long =
            sym (long_place turns (s.found.before ++ event ∷ p.mid) p.post post.turn there)
            ∙ length-append s.found.before (event ∷ p.mid)
            ∙ ap (λ n. n + suc (length p.mid)) (long_place turns s.found.before event turn at)

        by : (turn < post.turn) ⊎ (post.turn ≤ turn) → is_later race post ≡ true
        by (inl less) = or_left (nat_lt turn post.turn) _ (below turn post.turn less)
        by (inr more) =
            let same : post.turn ≡ turn = omega (arith, long, at.small, there.small) in
            let less : index_of race.take.reader < index_of race.left_out.writer =
            omega (arith, long, index_is, writer_is, same) in
            or_right (nat_lt turn post.turn) _
            (and_from (post.turn == turn) _ (eq-eqb post.turn turn same) (below _ _ less))

    is_it : later_post race ≡ Some post
    is_it =
        ap (option_and_then (λ one. if is_later race one then Some one else None)) when
        ∙ ap (λ b. if b then Some post else None) later

    -- so the run of the race has it
    abbrev last : List Event
    last = turn_of (side_of_turn post.turn)

    abbrev rest : List Event
    rest = drop (there.index + 1) last

    all : run_of race ≡ first ++ event ∷ (p.mid ++ p.post ∷ rest)
    all =
        run_later race post is_it
        ∙ sym (append_cancel_left front _ _ (
        sym (append_assoc front first (event ∷ (p.mid ++ p.post ∷ rest)))
        ∙ ap (λ es. es ++ event ∷ (p.mid ++ p.post ∷ rest)) (sym before_is)
        ∙ sym (append_assoc s.found.before (event ∷ p.mid) (p.post ∷ rest))
        ∙ ap (λ es. es ++ p.post ∷ rest) there.before_is
        ∙ append_assoc (some_turns 0 (post.turn - 0)) (take there.index last) (p.post ∷ rest)
        ∙ ap (λ es. some_turns 0 (post.turn - 0) ++ es) cut
        ∙ turns_next 0 post.turn (omega arith) ∙ ap (some_turns 0) many
        ∙ some_split 0 turn (post.turn + 1 - turn)
        ∙ ap₂ (λ es n. es ++ some_turns n (post.turn + 1 - turn)) (turns_are turn)
        (zero-add turn)))
      where
        cut : take there.index last ++ p.post ∷ rest ≡ take 144 last
        cut =
            sym (append_assoc (take there.index last) (p.post ∷ []) rest)
            ∙ ap (λ es. es ++ rest) (ap (λ e. take there.index last ++ e ∷ []) there.event_is
            ∙ sym (turn_take (side_of_turn post.turn) there.index there.small))
            ∙ take-append-drop (there.index + 1) last ∙ sym (turn_full (side_of_turn post.turn))

        many : post.turn + 1 - 0 ≡ turn + (post.turn + 1 - turn)
        many = let h = not_before race post is_it in omega arith

    -- apart from the take too
    apart : PostsApart now first event (p.mid ++ p.post ∷ rest) name cell
    apart = record {
      mid = p.mid;
      post = p.post;
      rest = rest;
      cut = refl;
      posts = record {
        move = p.posts.move;
        made = ap (λ c. move_in c p.post) (sym apart_leads) ∙ p.posts.made;
        side = p.posts.side;
        word = p.posts.word;
        asked = p.posts.asked;
      };
      early = less_short _ _ _ _ _
          ((shifted_from start front (moves now upto) legal).posts cell name)
          (subst (λ cs. cs.posts cell name < steps_in start (s.found.before ++ event ∷ []) name)
          clocks_are p.early) steps_are (omega (arith, one_more));
    }
      where
        upto : List Event
        upto = behind_take ++ p.post ∷ []

        clocks_are : clocks start ((s.found.before ++ event ∷ p.mid) ++ p.post ∷ [])
            ≡ clocks_on (clocks start front) (moves now upto)
        clocks_are =
            ap (clocks start) (ap (λ es. es ++ p.post ∷ []) behind_is
            ∙ append_assoc front behind_take (p.post ∷ []))
            ∙ ap (clocks_on no_clocks) (moves-append start front upto)
            ∙ clocks_on-append no_clocks (moves start front) (moves now upto)

        steps_are : steps_in start (s.found.before ++ event ∷ []) name
            ≡ steps_in start front name + steps_in now (first ++ event ∷ []) name
        steps_are =
            ap (λ es. steps_in start es name) (ap (λ es. es ++ event ∷ []) before_is
            ∙ append_assoc front first (event ∷ []))
            ∙ steps_append start front (first ++ event ∷ []) name

    of_posted : p.posts.word ≡ race.left_out.word → IsAhead now (run_of race) race
    unfolding apart
    of_posted e = make (p.mid ++ p.post ∷ rest) all (inr apart) (inr (apart, e))

  -- THE RACE IS AHEAD at the beginning of the turn of its take
  pub is_ahead : IsAhead now (run_of race) race
  is_ahead = by s.is.comes s.post
    where
      by : (comes : ComesWith start s.found.before event s.found.later name cell
          race.left_out.word)
          → IsPostShown start (turns_numbered turns) race s.found.before event s.found.later name
          cell comes → IsAhead now (run_of race) race
      by (inl is) shown = of_pending is
      by (inr (p, e)) (post, when, writer, in_turn) = of_posted p post when writer in_turn e

  -- and the take is in one of these turns
  pub take_within : race.take.turn < turns
  take_within = let h = at.within in omega arith
