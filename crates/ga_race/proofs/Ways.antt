-- The way to a race leads to where both of its words are pending.
use Rattle.std.proofs.Common.{◌≡◌, ℕ, ◌+◌, ◌<◌, ◌≤◌, true, false, List, [], ◌∷◌, ◌++◌, ◌⊎◌, inl, inr, length, take, drop, Option, Some, None, refl, sym, ap, ap₂, ◌∙◌, subst, append-nil, append_assoc, length-append, zero-le, arith}
use Rattle.std.specs.Prelude.{◌-◌, nat_lt, if◌then◌else◌, IsSome, option_map}
use Rattle.std.specs.Option.{option_to_list}
use Rattle.std.proofs.lemmas.Bool.{cases_lt, eq-eqb}
use Rattle.std.proofs.lemmas.List.{map-append, take-append-drop}
use Rattle.ga_place.specs.Node.{IsNodeName}
use Rattle.ga_place.specs.Cell.{read_cell}
use Rattle.ga_place.specs.Side.{is_among}
use Rattle.ga_place.specs.declared.side.Side.{Side}
use Rattle.ga_chip.specs.declared.outcome.Try as asked
use Rattle.ga_chip.specs.Part.{Part}
use Rattle.ga_chip.specs.Chip.{Chip, part_of, pending, tried}
use Rattle.ga_chip.specs.Legal.{IsLegal}
use Rattle.ga_chip.specs.Run.{ClearBreak, Event, Move, PassBreak, Piece, SetBreak, Try, happened, move_in, moves, moves_of, posted_by, ran, side_of_turn, tries_of, turn_of}
use Rattle.ga_chip.specs.Outcome.{moved_by}
use Rattle.ga_chip.specs.declared.outcome.Outcome.{Outcome}
use Rattle.ga_chip.proofs.Kept.{has_name, legal_ran}
use Rattle.ga_chip.proofs.Runs.{flow_ran, moves-append, moves_of-append, posts, ran-append, takes, takes_ran}
use Rattle.ga_chip.proofs.Turns.{count_moves, happened_try}
use Rattle.ga_observe.specs.Laws.{events_in}
use Rattle.ga_observe.specs.Seen.{Sees, steps_in as steps_of, steps_seen, turns_numbered}
use Rattle.ga_observe.proofs.Watched.{steps-append}
use Rattle.ga_race.specs.Clocks.{Clocks, clock_of, clocks, clocks_by, clocks_on, no_clocks, steps_in}
use Rattle.ga_race.specs.Details.{ComesWith}
use Rattle.ga_race.specs.Differs.{PostsApart}
use Rattle.ga_race.specs.Races.{LeavesOut}
use Rattle.ga_race.specs.Way.{IsBefore, IsOffered, ShowsBoth}
use Rattle.ga_race.specs.inner.Way.{IsOnWay, apart_by, apart_on, last_tries, last_turn}
use Rattle.ga_race.specs.Shown.{HasSeen, HasSeenFrom, Kept, Shows}
use Rattle.ga_race.specs.Watch.{CountsFit, Watch, first_watch, watch_on}
use Rattle.ga_race.specs.declared.found.Race.{Race}
use Rattle.ga_race.proofs.Alike.{AreTries, tries_front, tries_join}
use Rattle.ga_race.proofs.Apart.{Apart, next_try, none_yet, push_posts, same_pending}
use Rattle.ga_race.proofs.Beginning.{IsAhead, is_ahead, run_of}
use Rattle.ga_race.proofs.Finding.{race_found}
use Rattle.ga_race.proofs.Causes.{IsBehind, clocks_on-append, is_behind}
use Rattle.ga_race.proofs.Differs.{Takes, is_taken, takes_there}
use Rattle.ga_race.proofs.Prefixes.{One, one_or_none, moves_next, next_of}
use Rattle.ga_race.proofs.Following.{below, counted, counted_none, counted_some, follows_run, not_below, steps_before}
use Rattle.ga_race.proofs.Fitting.{steps_are_counted}
use Rattle.ga_race.proofs.Ticking.{node_here}
use Rattle.ga_race.proofs.Tracks.{first_track}
use Rattle.ga_race.proofs.Watching.{track_clocks}
use Rattle.ga_race.proofs.Trying.{outcome_is, tried_move}
use Rattle.ga_race.proofs.TurnLists.{some_turns, tries_of_turn, tries_of_turns}

-- ---- the way of a run

-- The way of a run, and of one behind it.
apart_on-append : (chip : Chip) (cs : Clocks) (name : ℕ) (one two : List Event)
    → apart_on chip cs name (one ++ two)
    ≡ apart_on chip cs name one ++ apart_on (ran chip one) (clocks_on cs (moves chip one)) name two
apart_on-append chip cs name [] two = refl
apart_on-append chip cs name (event ∷ one) two =
    let later = happened chip event in
    let here = clocks_on cs (move_in chip event) in
    let first = apart_by name 0 event (move_in chip event) cs in
    let rest = apart_on later here name one in
    ap (λ l. first ++ l) (apart_on-append later here name one two
    ∙ ap (λ c. rest ++ apart_on (ran later one) c name two)
    (sym (clocks_on-append cs (move_in chip event) (moves later one))))
    ∙ sym (append_assoc first rest _)

-- the moves of a run that don't come behind the first step of a node
abbrev way_of : Chip → ℕ → List Event → List Event
way_of start name done = apart_on start no_clocks name done

-- the way makes them
abbrev IsApart : Chip → ℕ → List Event → Type 0
IsApart start name done =
    Apart start no_clocks name 0 done (way_of start name done) (ran start done) (moves start done)

-- with one event more the way has it too, if it is such a move
way_next : (start : Chip) (name : ℕ) (done : List Event) (event : Event)
    → way_of start name (done ++ event ∷ []) ≡ way_of start name done
    ++ apart_by name 0 event (move_in (ran start done) event) (clocks start done)
way_next start name done event =
    apart_on-append start no_clocks name done (event ∷ [])
    ∙ ap (λ l. way_of start name done ++ l) (append-nil _)

apart_next : (start : Chip) (name : ℕ) (done : List Event) (one : asked.Try) → IsLegal start
    → IsApart start name done → IsApart start name (done ++ Try one.node one.side ∷ [])
apart_next start name done one legal so =
    let event = Try one.node one.side in
    let all = done ++ event ∷ [] in
    let way = way_of start name done
    ++ apart_by name 0 event (move_in (ran start done) event) (clocks start done) in
    subst (λ w. Apart start no_clocks name 0 all w (ran start all) (moves start all))
    (sym (way_next start name done event))
    (subst (λ c. Apart start no_clocks name 0 all way c (moves start all))
    (sym (ran-append start done (event ∷ [])))
    (subst (Apart start no_clocks name 0 all way (happened (ran start done) event))
    (sym (moves_next start done event))
    (next_try start no_clocks name 0 done (way_of start name done) one legal zero-le so)))

-- and so along the run
apart_along : (start : Chip) (name : ℕ) (done rest : List Event) → AreTries rest → IsLegal start
    → IsApart start name done → IsApart start name (done ++ rest)
apart_along start name done [] tries legal so =
    subst (IsApart start name) (sym (append-nil done)) so
apart_along start name done (Try node side ∷ rest) tries legal so =
    let event = Try node side in
    subst (IsApart start name) (append_assoc done (event ∷ []) rest)
    (apart_along start name (done ++ event ∷ []) rest tries.1 legal
    (apart_next start name done (record { node = node; side = side }) legal so))
apart_along start name done (SetBreak node at ∷ rest) tries legal so = absurd tries.0
apart_along start name done (ClearBreak node at ∷ rest) tries legal so = absurd tries.0
apart_along start name done (PassBreak node ∷ rest) tries legal so = absurd tries.0
apart_along start name done (Piece node words ∷ rest) tries legal so = absurd tries.0

-- ---- how far a way has come

-- at the start no turn has been made
pub way_begins : (start : Chip) (name first : ℕ) (watch : Kept) (way : List asked.Try)
    → IsLegal start → CountsFit start → watch.start ≡ start.cells → HasSeen watch [] → way ≡ []
    → IsOnWay start name (some_turns first (first - first)) start watch way
unfolding some_turns
way_begins start name first watch way legal fit cells seen none =
    let no_turns : 0 ≡ first - first = omega arith in
    subst (λ n. IsOnWay start name (some_turns first n) start watch way) no_turns (record {
      legal = legal;
      fit = fit;
      turns = [];
      events = refl;
      chip = refl;
      cells = cells;
      seen = seen;
      apart = ap tries_of none;
    })

-- the watch knows of no step exactly if there is none in the run
none_known : (before k : ℕ) → counted before k ≡ 0 → nat_lt 0 k ≡ false
none_known before k e = by (cases_lt 0 k)
  where
    by : (0 < k) ⊎ (k ≤ 0) → nat_lt 0 k ≡ false
    by (inl h) = let some = counted_some before k h in absurd (omega arith)
    by (inr h) = not_below 0 k h

some_known : (before k : ℕ) → (counted before k ≡ 0 → ⊥) → nat_lt 0 k ≡ true
some_known before k other = by (cases_lt 0 k)
  where
    by : (0 < k) ⊎ (k ≤ 0) → nat_lt 0 k ≡ true
    by (inl h) = below 0 k h
    by (inr h) = absurd (other (counted_none before k (omega arith)))

-- A try on the way: its outcome, and what the watch has seen.
pub record IsTried (start : Chip) (name : ℕ) (done : List Event) (was now : Chip) (old new : Kept)
    (way : List asked.Try) (node : ℕ) (side : Side) (turn : ℕ) (outcome : Outcome) : Type 0 where
  pub at : IsOnWay start name done was old way
  pub is : ◌≡◌ {A = Outcome × Chip} (outcome, now) (tried was node side)
  pub sees : Sees HasSeenFrom old new (steps_of turn was (Try node side))

module _ (start : Chip) (name : ℕ) (done : List Event) (was now : Chip) (old new : Kept)
    (way : List asked.Try) (node : ℕ) (side : Side) (turn : ℕ) (outcome : Outcome)
    (t : IsTried start name done was now old new way node side turn outcome) where
  abbrev event : Event
  event = Try node side

  abbrev turns : List (ℕ × Event)
  turns = t.at.turns ++ (turn, event) ∷ []

  all : events_in turns ≡ done ++ event ∷ []
  all =
      map-append (λ (one : ℕ × Event). one.1) t.at.turns ((turn, event) ∷ [])
      ∙ ap (λ es. es ++ event ∷ []) t.at.events

  leads : now ≡ ran start (done ++ event ∷ [])
  leads =
      ap (λ r. r.1) t.is ∙ sym (happened_try was node side)
      ∙ ap (λ c. happened c event) t.at.chip ∙ sym (ran-append start done (event ∷ []))

  -- what the watch has seen with the try
  seen : HasSeenFrom old new (steps_seen start turns)
  seen =
      subst (HasSeenFrom old new)
      (ap (λ l. steps_seen start t.at.turns ++ l)
      (sym (append-nil (steps_of turn was event))
      ∙ ap (λ c. steps_of turn c event ++ []) (t.at.chip ∙ ap (ran start) (sym t.at.events)))
      ∙ sym (steps-append start t.at.turns ((turn, event) ∷ [])))
      (t.sees old (steps_seen start t.at.turns) (record { start = refl; seen = t.at.seen }))

  -- so it knows which steps of a node come before that of the try
  abbrev w : Watch
  w = watch_on (first_watch start.cells) (steps_seen start turns)

  shows : Shows new w
  shows =
      subst (λ cs. Shows new (watch_on (first_watch cs) (steps_seen start turns)))
      (seen.start ∙ t.at.cells)
      (seen.seen (steps_are_counted start turns t.at.legal t.at.fit)).shows

  knows : (m : Move) → move_in (ran start done) event ≡ m ∷ []
      → w.clocks.nodes node name
      ≡ counted (steps_before start name) (clock_of m (clocks start done) name)
  knows m made =
      (follows_run start turns t.at.legal).nodes node name
      ∙ ap (λ cs. counted (steps_before start name) (cs.nodes node name))
      (track_clocks start first_track (events_in turns) ∙ ap (clocks start) all
      ∙ ap (clocks_on no_clocks) (moves_next start done event
      ∙ ap (λ ms. moves start done ++ ms) made)
      ∙ clocks_on-append no_clocks (moves start done) (m ∷ []))
      ∙ ap (λ n. counted (steps_before start name) ((clocks_by m (clocks start done)).nodes n name))
      (sym (ap (λ m. m.node) (tried_move (ran start done) node side m made).is))
      ∙ ap (λ c. counted (steps_before start name) (c name)) (node_here m (clocks start done))

  -- the way goes on by the try, or not
  goes_on : (more : List asked.Try)
      → tries_of more ≡ apart_by name 0 event (move_in (ran start done) event) (clocks start done)
      → IsOnWay start name (done ++ event ∷ []) now new (way ++ more)
  goes_on more e = record {
    legal = t.at.legal;
    fit = t.at.fit;
    turns = turns;
    events = all;
    chip = leads;
    cells = seen.start ∙ t.at.cells;
    seen = seen.seen;
    apart = map-append (λ (one : asked.Try). Try one.node one.side) way more
        ∙ ap₂ (λ a b. a ++ b) t.at.apart e ∙ sym (way_next start name done event);
  }

  -- what the watch knows of the steps before that of the try
  abbrev Knows : ℕ → Type 0
  Knows known = (w : Watch) → Shows new w → known ≡ w.clocks.nodes node name

  -- whether the try is a move
  moves_by : (count : ℕ) → count ≡ moved_by outcome
      → length (move_in (ran start done) event) ≡ count
  moves_by count e =
      ap (λ c. length (move_in c event)) (sym t.at.chip) ∙ count_moves was node side
      ∙ ap (λ r. moved_by r.0) (sym t.is) ∙ sym e

  -- it is on the way if it is a move that no step of the reader comes before
  pub pushed : (count known : ℕ) → count ≡ moved_by outcome → count ≡ 1 → Knows known → known ≡ 0
      → IsOnWay start name (done ++ event ∷ []) now new
      (way ++ record { node = node; side = side } ∷ [])
  pushed count known moved one knowing none =
      goes_on (record { node = node; side = side } ∷ []) (by (one_or_none (ran start done) event))
    where
      by : (move_in (ran start done) event ≡ []) ⊎ One (ran start done) event
          → event ∷ [] ≡ apart_by name 0 event (move_in (ran start done) event) (clocks start done)
      by (inl still) =
          let few = ap (λ ms. length ms) still in
          let many = moves_by count moved in absurd (omega arith)
      by (inr o) =
          ap (λ b. if b then [] else event ∷ []) (sym (none_known (steps_before start name)
          (clock_of o.move (clocks start done) name)
          (sym (knows o.move o.made) ∙ sym (knowing w shows) ∙ none)))
          ∙ ap (λ ms. apart_by name 0 event ms (clocks start done)) (sym o.made)

  -- and no other
  pub left : (count : ℕ) → count ≡ moved_by outcome
      → (count ≡ 1 → (known : ℕ) × Knows known × (known ≡ 0 → ⊥))
      → IsOnWay start name (done ++ event ∷ []) now new way
  left count moved other =
      subst (IsOnWay start name (done ++ event ∷ []) now new) (append-nil way)
      (goes_on [] (by (one_or_none (ran start done) event)))
    where
      by : (move_in (ran start done) event ≡ []) ⊎ One (ran start done) event
          → [] ≡ apart_by name 0 event (move_in (ran start done) event) (clocks start done)
      by (inl still) = ap (λ ms. apart_by name 0 event ms (clocks start done)) (sym still)
      by (inr o) =
          let it = other (sym (moves_by count moved) ∙ ap (λ ms. length ms) o.made) in
          ap (λ b. if b then [] else event ∷ []) (sym (some_known (steps_before start name)
          (clock_of o.move (clocks start done) name)
          (λ none. it.2 (it.1 w shows ∙ knows o.move o.made ∙ none))))
          ∙ ap (λ ms. apart_by name 0 event ms (clocks start done)) (sym o.made)

-- ---- the words of a cell

-- a list of one word at most has its last word, and its first one
last_one : (o : Option ℕ) (words : List ℕ) (word : ℕ) → words ++ word ∷ [] ≡ option_to_list o
    → o ≡ Some word
last_one None [] word e = cc
last_one None (x ∷ words) word e = cc
last_one (Some there) [] word e = cc
last_one (Some there) (x ∷ words) word e =
    let long : length (x ∷ words) + 1 ≡ 1 =
    sym (length-append (x ∷ words) (word ∷ [])) ∙ ap (λ l. length l) e in
    absurd (omega arith)

first_one : (o : Option ℕ) (word : ℕ) (words : List ℕ) → word ∷ words ≡ option_to_list o
    → o ≡ Some word
first_one None word words e = cc
first_one (Some there) word words e = cc

-- a part of nothing is nothing
nothing_behind : {A : Type 0} (one two : List A) → one ++ two ≡ [] → two ≡ []
nothing_behind [] two e = e
nothing_behind (x ∷ one) two e = cc

-- A word that is pending stays so as long as its reader makes no move.
stays_pending : (chip : Chip) (way : List Event) (name cell word : ℕ) (side : Side) → IsLegal chip
    → IsNodeName name → read_cell name side ≡ Some cell → moves_of name (moves chip way) ≡ []
    → pending chip cell ≡ Some word → pending (ran chip way) cell ≡ Some word
stays_pending chip way name cell word side legal named reads still is =
    first_one (pending (ran chip way) cell) word (posts cell (moves chip way))
    (ap (λ o. option_to_list o ++ posts cell (moves chip way)) (sym is)
    ∙ flow_ran chip way cell legal
    ∙ ap (λ l. l ++ option_to_list (pending (ran chip way) cell))
    (takes_ran chip way name cell side legal named reads ∙ ap (takes cell) still))

-- the last word that was posted is pending, as long as its reader makes no move
posted_pending : (chip : Chip) (way : List Event) (name cell word : ℕ) (side : Side)
    (words : List ℕ) → IsLegal chip → IsNodeName name → read_cell name side ≡ Some cell
    → moves_of name (moves chip way) ≡ [] → posts cell (moves chip way) ≡ words ++ word ∷ []
    → pending (ran chip way) cell ≡ Some word
posted_pending chip way name cell word side words legal named reads still is =
    last_one (pending (ran chip way) cell) (option_to_list (pending chip cell) ++ words) word
    (append_assoc (option_to_list (pending chip cell)) words (word ∷ [])
    ∙ ap (λ l. option_to_list (pending chip cell) ++ l) (sym is)
    ∙ flow_ran chip way cell legal
    ∙ ap (λ l. l ++ option_to_list (pending (ran chip way) cell))
    (takes_ran chip way name cell side legal named reads ∙ ap (takes cell) still))

-- ---- the way to a race

module _ (start : Chip) (events : List Event) (race : Race) (legal : IsLegal start)
    (tries : AreTries events) (b : IsAhead start events race) where
  -- the reader, and the run before its take
  abbrev name : ℕ
  name = b.found.name

  abbrev before : List Event
  before = b.found.before

  -- the take and the run behind it
  abbrev later : List Event
  later = b.found.event ∷ b.found.later

  abbrev l : LeavesOut (ran start before) b.found.event name b.found.cell
  l = b.found.leaves

  t : Takes (ran start before) b.found.event name b.found.cell l
  t =
      is_taken (ran start before) b.found.event name b.found.cell l
      (legal_ran start before legal)

  -- the way at each moment of the run
  abbrev way : List Event → List Event
  way done = way_of start name done

  at : (one two : List Event) → one ++ two ≡ events → IsApart start name one
  at one two cut =
      apart_along start name [] one (tries_front one two (subst AreTries (sym cut) tries)) legal
      (none_yet start no_clocks name 0)

  -- where it leads
  abbrev now : Chip
  now = ran start (way events)

  whole : IsApart start name events
  whole = at events [] (append-nil events)

  -- the reader makes no step before its take
  none : steps_in start before name ≡ 0
  none = ap (steps_in start before) (sym b.is.reader) ∙ b.first

  behind : IsBehind start before
  behind = is_behind start before legal

  up_to_take : IsApart start name before
  up_to_take = at before later (sym b.found.cut)

  stands : part_of start name ≡ Some l.part
  stands =
      let few = behind.nodes name name in
      let early : (clocks start before).nodes name name ≤ 0 = omega (arith, none) in
      sym up_to_take.stands ∙ up_to_take.parts name early ∙ l.there

  -- so it is before its take at the end of the way too
  there : part_of now name ≡ Some l.part
  there = whole.stands ∙ stands

  named : IsNodeName name
  named = has_name start name l.part legal stands

  -- up to the take the way makes all moves
  same : (cell : ℕ) → pending (ran start (way before)) cell ≡ pending (ran start before) cell
  same cell =
      let few = behind.posts cell name in
      let less = behind.takes cell name in
      same_pending start (way before) before cell legal
      (up_to_take.posts_are cell (omega (arith, none)))
      (up_to_take.takes_are cell (omega (arith, none)))

  -- a word that is pending on the way for the reader is pending at its end
  stays : (one two : List Event) → one ++ two ≡ events → (cell word : ℕ) (side : Side)
      → read_cell name side ≡ Some cell → pending (ran start (way one)) cell ≡ Some word
      → pending now cell ≡ Some word
  stays one two cut cell word side reads is =
      let rest = apart_on (ran start one) (clocks start one) name two in
      let all : way events ≡ way one ++ rest =
      ap way (sym cut) ∙ apart_on-append start no_clocks name one two in
      let still : moves_of name (moves (ran start (way one)) rest) ≡ [] =
      nothing_behind (moves_of name (moves start (way one))) _
      (sym (moves_of-append name (moves start (way one)) (moves (ran start (way one)) rest))
      ∙ ap (moves_of name) (sym (moves-append start (way one) rest) ∙ ap (moves start) (sym all))
      ∙ whole.still) in
      ap (λ c. pending c cell) (ap (ran start) all ∙ ran-append start (way one) rest)
      ∙ stays_pending (ran start (way one)) rest name cell word side
      (legal_ran start (way one) legal) named reads still is

  -- the word that is taken is pending
  taken : pending now t.at ≡ Some race.take.taken.word
  taken =
      stays before later (sym b.found.cut) t.at race.take.taken.word l.taken t.reads
      (same t.at ∙ sym t.found ∙ b.is.word)

  -- and so is one that comes later
  comes : (p : PostsApart start before b.found.event b.found.later name b.found.cell)
      → pending now b.found.cell ≡ Some p.posts.word
  comes p =
      stays upto p.rest cut b.found.cell p.posts.word l.left_out l.reads
      (posted_pending start (way upto) name b.found.cell p.posts.word l.left_out
      (posts b.found.cell (moves start done)) legal named l.reads moment.still
      (moment.posts_are b.found.cell early ∙ posted))
    where
      done : List Event
      done = before ++ b.found.event ∷ p.mid

      upto : List Event
      upto = done ++ p.post ∷ []

      cut : upto ++ p.rest ≡ events
      cut =
          append_assoc done (p.post ∷ []) p.rest
          ∙ append_assoc before (b.found.event ∷ p.mid) (p.post ∷ p.rest)
          ∙ ap (λ es. before ++ b.found.event ∷ es) (sym p.cut) ∙ sym b.found.cut

      moment : IsApart start name upto
      moment = at upto p.rest cut

      early : (clocks start upto).posts b.found.cell name ≤ 0
      early =
          let first : steps_in start (before ++ b.found.event ∷ []) name
          ≡ steps_in start before name + 1 =
          ap (λ ms. length ms) (next_of start before b.found.event name
          ∙ ap (λ ms. moves_of name (moves start before) ++ ms) l.made)
          ∙ length-append (moves_of name (moves start before)) (l.move ∷ []) in
          omega (arith, p.early, none)

      posted : posts b.found.cell (moves start upto)
          ≡ posts b.found.cell (moves start done) ++ p.posts.word ∷ []
      posted =
          ap (posts b.found.cell) (moves_next start done p.post
          ∙ ap (λ ms. moves start done ++ ms) p.posts.made)
          ∙ push_posts b.found.cell (moves start done) p.posts.move
          ∙ ap (λ q. posts b.found.cell (moves start done) ++ posted_by b.found.cell q)
          p.posts.asked
          ∙ ap (λ is. posts b.found.cell (moves start done)
          ++ (if is then p.posts.word ∷ [] else [])) (eq-eqb b.found.cell b.found.cell refl)

  -- in either case
  left_out : ComesWith start before b.found.event b.found.later name b.found.cell
      race.left_out.word → pending now b.found.cell ≡ Some race.left_out.word
  left_out (inl is) =
      stays before later (sym b.found.cut) b.found.cell race.left_out.word l.left_out l.reads
      (same b.found.cell ∙ is)
  left_out (inr (p, e)) = comes p ∙ ap Some e

  -- so the reader can take either
  both : ShowsBoth now race
  both = record {
    state = l.part.state;
    there = ap (λ n. option_map (λ (p : Part). p.state) (part_of now n)) b.is.reader
        ∙ ap (option_map (λ (p : Part). p.state)) there;
    number = b.is.number;
    place = b.is.place;
    p = b.is.p;
    sides = b.is.sides;
    taken = offered race.take.taken.side l.taken t.at race.take.taken.word b.is.taken t.among
        t.reads taken;
    left_out = offered race.left_out.side l.left_out b.found.cell race.left_out.word b.is.left_out
        t.among_left l.reads (left_out b.is.comes);
  }
    where
      offered : (shown side : Side) (cell word : ℕ) → shown ≡ side
          → is_among side t.chooses.sides ≡ true
          → read_cell name side ≡ Some cell → pending now cell ≡ Some word
          → IsOffered now race.take.reader shown word
      offered shown side cell word e among reads holds =
          subst (λ n. IsOffered now n shown word) (sym b.is.reader)
          (subst (λ s. IsOffered now name s word) (sym e) (record {
            cell = cell;
            reads = reads;
            holds = holds;
            moved = outcome_is now name side l.part there
                ∙ takes_there now l.part name cell side t.chooses among reads
                (subst IsSome (sym holds) refl);
          }))

-- THE WAY LEADS TO BOTH WORDS
pub way_shows : (start : Chip) (race : Race) (way : List Event) → IsLegal start
    → way ≡ apart_on start no_clocks race.take.reader (run_of race)
    → IsBefore start race → ShowsBoth (ran start way) race
way_shows start race way legal is b =
    subst (λ w. ShowsBoth (ran start w) race)
    (ap (λ n. apart_on start no_clocks n (run_of race)) (sym ahead.is.reader) ∙ sym is)
    (both start (run_of race) race legal tries ahead)
  where
    ahead : IsAhead start (run_of race) race
    ahead =
        subst (λ chip. IsAhead chip (run_of race) race) (sym b.leads)
        (is_ahead b.start b.turns race b.legal
        (race_found b.start (turns_numbered b.turns) race b.legal b.among))

    tries : AreTries (run_of race)
    tries =
        let last = turn_of (side_of_turn (last_turn race)) in
        tries_join (some_turns race.take.turn (last_turn race - race.take.turn))
        (take (last_tries race) last)
        (tries_of_turns race.take.turn (last_turn race - race.take.turn))
        (tries_front (take (last_tries race) last) (drop (last_tries race) last)
        (subst AreTries (sym (take-append-drop (last_tries race) last))
        (tries_of_turn (side_of_turn (last_turn race)))))
