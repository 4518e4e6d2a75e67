-- The race that a watch found among the steps of a run is one of the run, with its details.
use Rattle.std.proofs.Common.{◌≡◌, ℕ, ◌+◌, ◌≤◌, ◌<◌, Bool, true, false, List, [], ◌∷◌, ◌++◌, ◌⊎◌, inl, inr, length, length-append, Option, Some, None, refl, sym, ap, ap₂, ◌∙◌, subst, append_assoc, arith}
use Rattle.std.specs.Prelude.{◌==◌, IsSome, if◌then◌else◌, is_some, not, unwrap_or}
use Rattle.std.proofs.lemmas.Bool.{and_parts, cases_lt, eq-eqb, false≢true}
use Rattle.std.proofs.lemmas.List.{map-append}
use Rattle.std.proofs.lemmas.Option.{same_Some}
use Rattle.ga_place.specs.Node.{IsNodeName}
use Rattle.ga_place.specs.Cell.{cell_of, read_cell}
use Rattle.ga_place.specs.Side.{is_among, neighbour_of, one_side, side_bit}
use Rattle.ga_place.specs.declared.side.Side.{Side}
use Rattle.ga_place.specs.declared.side.Sides.{Sides}
use Rattle.ga_place.proofs.Cells.{one_reader, reader_there, writer_there}
use Rattle.ga_place.proofs.SideLemmas.{neighbour_of-IsNodeName, shared_port}
use Rattle.ga_node.specs.Need.{need_of, takes_at}
use Rattle.ga_node.specs.declared.need.Need.{Need}
use Rattle.ga_node.specs.declared.need.Need.TheVariants as need
use Rattle.ga_chip.specs.Part.{Asks, Nothing, Own, Feed, Post, Take, Check, asks_by, at_cell, input_of, looked_at, picked_by, picked_of, take_from}
use Rattle.ga_chip.specs.Chip.{Chip, pending}
use Rattle.ga_chip.specs.Legal.{IsLegal}
use Rattle.ga_chip.specs.Run.{Event, Move, happened, move_in, moves, moves_of, ran, turns_of}
use Rattle.ga_chip.proofs.Kept.{has_name, legal_ran}
use Rattle.ga_chip.proofs.Parts.{Fits, Passes}
use Rattle.ga_chip.proofs.Runs.{ran-append}
use Rattle.ga_observe.specs.declared.step.Deed.TheVariants as did
use Rattle.ga_observe.specs.declared.step.Step.{Step}
use Rattle.ga_observe.specs.Laws.{events_in}
use Rattle.ga_observe.specs.Seen.{deed_of, step_of, steps_in, steps_seen, turns_numbered}
use Rattle.ga_observe.proofs.Watched.{plain_turns, steps-append}
use Rattle.ga_race.specs.Clocks as run
use Rattle.ga_race.specs.Clocks.{clock_of, clocks, post_clocks}
use Rattle.ga_race.specs.Races.{LeavesOut}
use Rattle.ga_race.specs.Differs.{HasRace, PostsApart}
use Rattle.ga_race.specs.Found.{IsAmong, IsPending, IsPostedIn, LeavesAt}
use Rattle.ga_race.specs.Details.{ComesWith, IsRaceOf, WatchShows}
use Rattle.ga_race.specs.Watch.{Watch, clock_after, first_watch, leaves_side, watch_on}
use Rattle.ga_race.specs.declared.found.Post as declared
use Rattle.ga_race.specs.declared.found.Race.{Race}
use Rattle.ga_race.proofs.Tracks.{Track, first_track, track_on, tracked_all, tracked_by}
use Rattle.ga_race.proofs.Prefixes.{One, its_own, next_of, one_or_none}
use Rattle.ga_race.proofs.Causes.{fits_made}
use Rattle.ga_race.proofs.Watching.{track-append, track_clocks}
use Rattle.ga_race.proofs.Following.{Follows, clock, counted, counted_some, follows_run, no_step, number, one_step, only_it, steps_before, watch-append}

-- A STEP OF A RUN
-- the event that it is, and the events before and after it
record At (chip : Chip) (events : List (ℕ × Event)) (before : List Step) (step : Step)
    (later : List Step) : Type 0 where
  front : List (ℕ × Event)
  turn : ℕ
  event : Event
  back : List (ℕ × Event)
  cut : events ≡ front ++ (turn, event) ∷ back
  front_is : steps_seen chip front ≡ before
  one : One (ran chip (events_in front)) event
  is : step_of turn one.makes.part.state one.move ≡ step
  back_is : steps_seen (happened (ran chip (events_in front)) event) back ≡ later

-- the same of a run with one event more at its front
behind : (chip : Chip) (next : ℕ × Event) (rest : List (ℕ × Event)) (first before : List Step)
    (step : Step) (later : List Step) → steps_in next.0 chip next.1 ≡ first
    → At (happened chip next.1) rest before step later
    → At chip (next ∷ rest) (first ++ before) step later
behind chip next rest first before step later e a = record {
  front = next ∷ a.front;
  turn = a.turn;
  event = a.event;
  back = a.back;
  cut = ap (λ l. next ∷ l) a.cut;
  front_is = ap₂ (λ one more. one ++ more) e a.front_is;
  one = a.one;
  is = a.is;
  back_is = a.back_is;
}

at_step : (chip : Chip) (events : List (ℕ × Event)) (before : List Step) (step : Step)
    (later : List Step) → steps_seen chip events ≡ before ++ step ∷ later
    → At chip events before step later
at_step chip [] [] step later e = cc
at_step chip [] (first ∷ before) step later e = cc
at_step chip (next ∷ rest) before step later e =
    by (one_or_none chip next.1) before e
    (λ front back f. at_step (happened chip next.1) rest front step back f)
  where
    by : (move_in chip next.1 ≡ []) ⊎ One chip next.1 → (before : List Step)
        → steps_in next.0 chip next.1 ++ steps_seen (happened chip next.1) rest
        ≡ before ++ step ∷ later
        → ((front back : List Step)
        → steps_seen (happened chip next.1) rest ≡ front ++ step ∷ back
        → At (happened chip next.1) rest front step back)
        → At chip (next ∷ rest) before step later
    by (inl none) before e goes =
        behind chip next rest [] before step later (no_step chip next.1 next.0 none)
        (goes before later (ap (λ l. l ++ steps_seen (happened chip next.1) rest)
        (sym (no_step chip next.1 next.0 none)) ∙ e))
    by (inr o) [] e goes =
        let here : step_of next.0 o.makes.part.state o.move ∷ steps_seen (happened chip next.1) rest
        ≡ step ∷ later =
        ap (λ l. l ++ steps_seen (happened chip next.1) rest) (sym (one_step chip next.1 next.0 o))
        ∙ e in
        record {
          front = [];
          turn = next.0;
          event = next.1;
          back = rest;
          cut = refl;
          front_is = refl;
          one = o;
          is = cc;
          back_is = cc;
        }
    by (inr o) (first ∷ before) e goes =
        let here : step_of next.0 o.makes.part.state o.move ∷ steps_seen (happened chip next.1) rest
        ≡ first ∷ (before ++ step ∷ later) =
        ap (λ l. l ++ steps_seen (happened chip next.1) rest) (sym (one_step chip next.1 next.0 o))
        ∙ e in
        let same : first ≡ step_of next.0 o.makes.part.state o.move = cc in
        let more : steps_seen (happened chip next.1) rest ≡ before ++ step ∷ later = cc in
        subst (λ s. At chip (next ∷ rest) (s ∷ before) step later) (sym same)
        (behind chip next rest (step_of next.0 o.makes.part.state o.move ∷ []) before step later
        (one_step chip next.1 next.0 o) (goes before later more))

-- A MULTIPORT TAKE
-- what a move is whose step takes a word at one of several sides
record Takes (n : Need) (picked : List Side) (found : Option ℕ) (taken : Side)
    (sides : Sides) (word : ℕ) : Type 0 where
  needs : n ≡ need.Take sides
  picks : picked ≡ taken ∷ []
  finds : found ≡ Some word

takes_by : (n : Need) (name : ℕ) (stream : Option (List ℕ)) (chosen : Side) (found : Option ℕ)
    (taken side : Side) (sides : Sides) (word : ℕ) → Passes (asks_by n name stream chosen) found
    → deed_of n (asks_by n name stream chosen) found ≡ did.Took taken sides word
    → leaves_side (did.Took taken sides word) side ≡ true
    → Takes n (picked_by n chosen) found taken sides word
takes_by (need.Take all) name stream chosen found taken side sides word p e h =
    by (one_side all) refl p e
  where
    at_none : (only : Side) (o : Option ℕ) → one_side all ≡ Some only
        → deed_of (need.Take all) (at_cell (Take only) o) found ≡ did.Took taken sides word → ⊥
    at_none only None one f = cc
    at_none only (Some cell) one f =
        let one_is : only ≡ taken = cc in
        let all_is : all ≡ sides = cc in
        false≢true (sym (only_it all only side one)
        ∙ ap₂ (λ s o. leaves_side (did.Took o s word) side) all_is one_is ∙ h)

    at_side : (o : Option ℕ) → Passes (at_cell (Take chosen) o) found
        → deed_of (need.Take all) (at_cell (Take chosen) o) found ≡ did.Took taken sides word
        → Takes (need.Take all) (chosen ∷ []) found taken sides word
    at_side None p f = absurd p
    at_side (Some cell) p f =
        let one_is : chosen ≡ taken = cc in
        let all_is : all ≡ sides = cc in
        let word_is : unwrap_or found 0 ≡ word = cc in
        record {
          needs = ap need.Take all_is;
          picks = ap (λ s. s ∷ []) one_is;
          finds = p.1 ∙ ap Some (ap (λ o. unwrap_or o 0) (sym p.1) ∙ word_is);
        }

    at_several : (b : Bool) → Passes (take_from name (if b then Some chosen else None)) found
        → deed_of (need.Take all) (take_from name (if b then Some chosen else None)) found
        ≡ did.Took taken sides word
        → Takes (need.Take all) (chosen ∷ []) found taken sides word
    at_several true p f = at_side (read_cell name chosen) p f
    at_several false p f = absurd p

    by : (o : Option Side) → one_side all ≡ o
        → Passes (take_from name (looked_at o all chosen)) found
        → deed_of (need.Take all) (take_from name (looked_at o all chosen)) found
        ≡ did.Took taken sides word
        → Takes (need.Take all) (picked_of o chosen) found taken sides word
    by (Some only) one p f = absurd (at_none only (read_cell name only) one f)
    by None one p f = at_several (is_among chosen all) p f
takes_by need.Own name stream chosen found taken side sides word p e h = cc
takes_by (need.Post to it) name stream chosen found taken side sides word p e h =
    by (cell_of name to) e
  where
    by : (o : Option ℕ) → deed_of (need.Post to it) (at_cell (λ cell. Post to cell it) o) found
        ≡ did.Took taken sides word → Takes (need.Post to it) [] found taken sides word
    by None f = cc
    by (Some cell) f = cc
takes_by (need.Check to) name stream chosen found taken side sides word p e h =
    by (cell_of name to) e
  where
    by : (o : Option ℕ) → deed_of (need.Check to) (at_cell (Check to) o) found
        ≡ did.Took taken sides word → Takes (need.Check to) [] found taken sides word
    by None f = cc
    by (Some cell) f = cc
takes_by need.Input name stream chosen found taken side sides word p e h = by stream e
  where
    by : (s : Option (List ℕ)) → deed_of need.Input (input_of s) found ≡ did.Took taken sides word
        → Takes need.Input [] found taken sides word
    by None f = cc
    by (Some []) f = cc
    by (Some (first ∷ rest)) f = cc
takes_by (need.Stopped stop) name stream chosen found taken side sides word p e h = cc

-- the cell of a take
taken_there : (n : Need) (q : Asks) (name : ℕ) (found : Option ℕ) (taken : Side) (sides : Sides)
    (word : ℕ) → Fits q n name → deed_of n q found ≡ did.Took taken sides word
    → (cell : ℕ) × (read_cell name taken ≡ Some cell)
taken_there n (Take side cell) name found taken sides word fits e =
    let side_is : side ≡ taken = cc in (cell, ap (read_cell name) (sym side_is) ∙ fits.1)
taken_there n (Nothing outcome) name found taken sides word fits e = cc
taken_there n Own name found taken sides word fits e = cc
taken_there n (Feed fed) name found taken sides word fits e = cc
taken_there n (Post side cell it) name found taken sides word fits e = cc
taken_there n (Check side cell) name found taken sides word fits e = cc

-- A POST
posts_by : (n : Need) (q : Asks) (name cell word : ℕ) (found : Option ℕ) (side : Side)
    → Fits q n name → deed_of n q found ≡ did.Posted side word → cell_of name side ≡ Some cell
    → q ≡ Post side cell word
posts_by n (Post to at it) name cell word found side fits e writes =
    let side_is : to ≡ side = cc in
    let word_is : it ≡ word = cc in
    let cell_is : at ≡ cell =
    same_Some at cell (sym fits.0 ∙ ap (cell_of name) side_is ∙ writes) in
    cc
posts_by n (Nothing outcome) name cell word found side fits e writes = cc
posts_by n Own name cell word found side fits e writes = cc
posts_by n (Feed fed) name cell word found side fits e writes = cc
posts_by n (Take at it) name cell word found side fits e writes = cc
posts_by n (Check at it) name cell word found side fits e writes = cc

-- a count is less than another if it is with the steps before the run
less_counted : (before k steps most : ℕ) → counted before k < most → most ≡ before + steps
    → 1 ≤ steps → k < steps
less_counted before k steps most less is some = by (cases_lt k 1)
  where
    by : (k < 1) ⊎ (1 ≤ k) → k < steps
    by (inl none) = omega arith
    by (inr more) = let same = counted_some before k more in omega arith

-- THE RACE
-- An event of a run, behind these ones, is that of a turn.
pub record IsInTurn (events : List (ℕ × Event)) (before : List Event) (event : Event)
    (turn : ℕ) : Type 0 where
  pub front : List (ℕ × Event)
  pub back : List (ℕ × Event)
  pub cut : events ≡ front ++ (turn, event) ∷ back
  pub front_is : events_in front ≡ before

-- a word that is posted later than the take is posted by its writer, in the turn that is shown
abbrev pub IsPostShown : (chip : Chip) (events : List (ℕ × Event)) (race : Race)
    (before : List Event) (event : Event) (later : List Event) (name cell : ℕ)
    → ComesWith chip before event later name cell race.left_out.word → Type 0
IsPostShown chip events race before event later name cell (inl pending) = Unit {0}
IsPostShown chip events race before event later name cell (inr (p, e)) =
    (at : declared.Post) × (race.left_out.post ≡ Some at)
    × (p.posts.move.node ≡ race.left_out.writer)
    × IsInTurn events (before ++ event ∷ p.mid) p.post at.turn

-- A race of a run, with what is shown of it.
pub record IsShown (chip : Chip) (events : List (ℕ × Event)) (race : Race) : Type 0 where
  pub found : HasRace chip (events_in events)
  pub is : IsRaceOf chip (events_in events) found race
  pub take : IsInTurn events found.before found.event race.take.turn
  pub post : IsPostShown chip events race found.before found.event found.later found.name
      found.cell is.comes

module _ (chip : Chip) (events : List (ℕ × Event)) (race : Race) (legal : IsLegal chip)
    (among : IsAmong chip.cells (steps_seen chip events) race) where
  abbrev take : At chip events among.before among.step among.later
  take = at_step chip events among.before among.step among.later among.cut

  abbrev done : List Event
  done = events_in take.front

  abbrev now : Chip
  now = ran chip done

  abbrev m : Move
  m = take.one.move

  deed_is : (step_of take.turn take.one.makes.part.state take.one.move).deed
      ≡ did.Took race.take.taken.side race.take.sides race.take.taken.word
  deed_is = ap (λ (s : Step). s.deed) take.is ∙ among.take.deed

  reader_is : m.node ≡ race.take.reader
  reader_is = ap (λ (s : Step). s.node) take.is ∙ among.take.reader

  legal_now : IsLegal now
  legal_now = legal_ran chip done legal

  abbrev first : Watch
  first = first_watch chip.cells

  follows : Follows chip now (track_on chip first_track done) (watch_on first among.before)
  follows =
      subst (λ l. Follows chip now (track_on chip first_track done) (watch_on first l))
      take.front_is (follows_run chip take.front legal)

  -- the take leaves out a side
  takes : (side : Side)
      → leaves_side (did.Took race.take.taken.side race.take.sides race.take.taken.word) side ≡ true
      → Takes (need_of take.one.makes.part.state) m.picked m.found race.take.taken.side
      race.take.sides race.take.taken.word
  takes side h =
      let it = take.one.makes in
      subst (λ picked. Takes (need_of it.part.state) picked m.found race.take.taken.side
      race.take.sides race.take.taken.word) (sym it.picks)
      (takes_by (need_of it.part.state) it.part.state.node it.part.stream it.side m.found
      race.take.taken.side side race.take.sides race.take.taken.word
      (subst (λ q. Passes q m.found) it.asked it.passed)
      (ap (λ q. deed_of (need_of it.part.state) q m.found) (sym it.asked) ∙ deed_is) h)

  leaves : (side : Side) (cell : ℕ) → LeavesAt race.take side cell
      → LeavesOut now take.event m.node cell
  leaves side cell at =
      let both = and_parts (is_among side race.take.sides)
      (not (side_bit side == side_bit race.take.taken.side)) at.leaves in
      record {
        part = take.one.makes.part;
        there = take.one.makes.there;
        move = m;
        made = ap (moves_of m.node) take.one.made ∙ its_own m.node m refl;
        taken = race.take.taken.side;
        picked = (takes side at.leaves).picks;
        left_out = side;
        apart = λ same. false≢true
            (sym (ap not (eq-eqb (side_bit side) (side_bit race.take.taken.side)
            (ap side_bit same))) ∙ both.1);
        among = ap (takes_at side) (takes side at.leaves).needs ∙ both.0;
        reads = ap (λ n. read_cell n side) reader_is ∙ at.reads;
      }

  taken_writer : neighbour_of m.node race.take.taken.side ≡ Some race.take.taken.writer
  taken_writer =
      let there = taken_there (need_of take.one.makes.part.state) m.asked m.node m.found
      race.take.taken.side race.take.sides race.take.taken.word
      (fits_made now m.node m take.one.makes legal_now) deed_is in
      let other = writer_there m.node there.0 race.take.taken.side there.1 in
      other.1 ∙ ap Some (sym (among.take.writer other.0
      (ap (λ n. neighbour_of n race.take.taken.side) (sym reader_is) ∙ other.1)))

  -- so the run has a race, which is this one
  abbrev Shown : Type 0
  Shown = IsShown chip events race

  shown : (side : Side) (cell : ℕ) → LeavesAt race.take side cell
      → (comes : IsSome (pending now cell)
      ⊎ PostsApart chip done take.event (events_in take.back) m.node cell)
      → race.left_out.side ≡ side
      → (word : ComesWith chip done take.event (events_in take.back) m.node cell race.left_out.word)
      → IsPostShown chip events race done take.event (events_in take.back) m.node cell word
      → neighbour_of m.node race.left_out.side ≡ Some race.left_out.writer → Shown
  unfolding leaves
  shown side cell at comes left word post writer = record {
    found = record {
      before = done;
      event = take.event;
      later = events_in take.back;
      cut = ap events_in take.cut ∙ map-append (λ (one : ℕ × Event). one.1) take.front
          ((take.turn, take.event) ∷ take.back);
      name = m.node;
      cell = cell;
      leaves = leaves side cell at;
      comes = comes;
    };
    is = record {
      reader = sym reader_is;
      number = sym among.take.number ∙ ap (λ (s : Step). s.number) (sym take.is);
      place = sym among.take.place ∙ ap (λ (s : Step). s.place) (sym take.is);
      p = sym among.take.p ∙ ap (λ (s : Step). s.p) (sym take.is);
      sides = (takes side at.leaves).needs;
      taken = refl;
      word = (takes side at.leaves).finds;
      writer = taken_writer;
      left_out = left;
      comes = word;
      other_writer = writer;
    };
    take = subst (IsInTurn events done take.event)
        (ap (λ (s : Step). s.turn) take.is ∙ among.take.turn)
        (record { front = take.front; back = take.back; cut = take.cut; front_is = refl });
    post = post;
  }

  -- A WORD IS PENDING
  of_pending : IsPending (watch_on first among.before).words race → Shown
  of_pending p =
      let there : pending now p.cell ≡ Some race.left_out.word =
      sym (follows.words p.cell) ∙ p.word in
      let other = writer_there race.take.reader p.cell race.left_out.side p.at.reads in
      shown race.left_out.side p.cell p.at (inl (ap is_some there)) refl (inl there) tt
      (ap (λ n. neighbour_of n race.left_out.side) reader_is ∙ other.1
      ∙ ap Some (sym (p.writer other.0 other.1)))

  -- A WORD IS POSTED
  -- the steps of the node with the take
  abbrev steps : ℕ
  steps = run.steps_in chip (done ++ take.event ∷ []) m.node

  one_more : steps ≡ run.steps_in chip done m.node + 1
  one_more =
      ap (λ (l : List Move). length l) (next_of chip done take.event m.node
      ∙ ap (λ l. moves_of m.node (moves chip done) ++ l)
      (ap (moves_of m.node) take.one.made ∙ its_own m.node m refl))
      ∙ length-append (moves_of m.node (moves chip done)) (m ∷ [])

  number_is : race.take.number + 1 ≡ steps_before chip m.node + steps
  number_is =
      let a = number chip done take.turn take.event (watch_on first among.before) legal take.one
      follows in
      let b : race.take.number ≡ take.one.makes.part.state.steps =
      sym among.take.number ∙ ap (λ (s : Step). s.number) (sym take.is) in
      let c = one_more in
      omega arith

  module _ (q : IsPostedIn (watch_on first (among.before ++ among.step ∷ [])) among.later race)
      (post : At (happened now take.event) take.back q.mid q.post q.rest) where
    abbrev passed : List (ℕ × Event)
    passed = take.front ++ (take.turn, take.event) ∷ post.front

    abbrev behind_take : List Event
    behind_take = done ++ take.event ∷ events_in post.front

    events_are : events_in passed ≡ behind_take
    events_are = map-append (λ (one : ℕ × Event). one.1) take.front
        ((take.turn, take.event) ∷ post.front)

    abbrev w : Watch
    w = watch_on (watch_on first (among.before ++ among.step ∷ [])) q.mid

    steps_are : steps_seen chip passed ≡ (among.before ++ among.step ∷ []) ++ q.mid
    steps_are =
        steps-append chip take.front ((take.turn, take.event) ∷ post.front)
        ∙ ap₂ (λ a b. a ++ b) take.front_is (ap₂ (λ a b. a ++ b)
        (one_step now take.event take.turn take.one ∙ ap (λ s. s ∷ []) take.is) post.front_is)
        ∙ sym (append_assoc among.before (among.step ∷ []) q.mid)

    follows_post : Follows chip (ran chip behind_take) (track_on chip first_track behind_take) w
    follows_post =
        subst (λ v. Follows chip (ran chip behind_take) (track_on chip first_track behind_take) v)
        (ap (watch_on first) steps_are
        ∙ watch-append first (among.before ++ among.step ∷ []) q.mid)
        (subst (λ es. Follows chip (ran chip es) (track_on chip first_track es)
        (watch_on first (steps_seen chip passed))) events_are (follows_run chip passed legal))

    abbrev side : Side
    side = race.left_out.side

    posted_at : (o : One (ran chip behind_take) post.event)
        → step_of post.turn o.makes.part.state o.move ≡ q.post → Shown
    posted_at o is =
        shown q.side q.cell q.at (inr apart) same.1 (inr (apart, refl)) (
          q.posted.shown,
          q.posted.when,
          ap (λ (s : Step). s.node) is ∙ q.posted.writer,
          subst (IsInTurn events behind_take post.event)
              (ap (λ (s : Step). s.turn) is ∙ sym q.posted.turn) turn_is,
        ) writer
      where
        legal_post : IsLegal (ran chip behind_take)
        legal_post = legal_ran chip behind_take legal

        turn_is : IsInTurn events behind_take post.event post.turn
        turn_is = record {
          front = passed;
          back = post.back;
          cut = take.cut ∙ ap (λ l. take.front ++ (take.turn, take.event) ∷ l) post.cut
              ∙ sym (append_assoc take.front ((take.turn, take.event) ∷ post.front) _);
          front_is = events_are;
        }

        t : Track
        t = track_on chip first_track behind_take

        named : IsNodeName o.move.node
        named = has_name (ran chip behind_take) o.move.node o.makes.part legal_post o.makes.there

        writes : cell_of o.move.node side ≡ Some q.cell
        writes = ap (λ (s : Step). cell_of s.node side) is ∙ q.posted.writes

        next : neighbour_of o.move.node side ≡ Some q.posted.reader
        next = ap (λ (s : Step). neighbour_of s.node side) is ∙ q.posted.next

        asked : o.move.asked ≡ Post side q.cell race.left_out.word
        asked =
            posts_by (need_of o.makes.part.state) o.move.asked o.move.node q.cell
            race.left_out.word o.move.found side
            (fits_made (ran chip behind_take) o.move.node o.move o.makes legal_post)
            (ap (λ (s : Step). s.deed) is ∙ q.posted.deed) writes

        same : (q.posted.reader ≡ m.node) × (side ≡ q.side)
        same =
            one_reader q.posted.reader m.node q.cell side q.side
            (neighbour_of-IsNodeName o.move.node q.posted.reader side named next)
            (has_name now m.node take.one.makes.part legal_now take.one.makes.there)
            (reader_there o.move.node q.posted.reader q.cell side named writes next)
            (ap (λ n. read_cell n q.side) reader_is ∙ q.at.reads)

        writer : neighbour_of m.node side ≡ Some race.left_out.writer
        writer =
            ap (λ n. neighbour_of n side) (sym same.0)
            ∙ shared_port o.move.node q.posted.reader side named next
            ∙ ap (λ (s : Step). Some s.node) is ∙ ap Some q.posted.writer

        early : clock_of o.move t.clocks m.node < steps
        early =
            less_counted (steps_before chip m.node) (clock_of o.move t.clocks m.node) steps
            (race.take.number + 1)
            (subst (λ k. k < race.take.number + 1)
            (ap (λ s. clock_after s w.clocks q.posted.reader) (sym is)
            ∙ clock chip behind_take post.turn post.event w legal o follows_post q.posted.reader
            ∙ ap (λ n. counted (steps_before chip n) (clock_of o.move t.clocks n)) same.0)
            q.posted.early) number_is (omega (arith, one_more))

        next_is : track_on chip first_track (behind_take ++ post.event ∷ [])
            ≡ tracked_by (ran chip behind_take) t o.move
        next_is =
            track-append chip first_track behind_take (post.event ∷ [])
            ∙ ap (tracked_all (ran chip behind_take) t) o.made

        clock_is : (clocks chip (behind_take ++ post.event ∷ [])).posts q.cell m.node
            ≡ clock_of o.move t.clocks m.node
        clock_is =
            ap (λ cs. cs.posts q.cell m.node)
            (sym (track_clocks chip first_track (behind_take ++ post.event ∷ [])))
            ∙ ap (λ v. v.clocks.posts q.cell m.node) next_is
            ∙ ap (λ a. post_clocks a (clock_of o.move t.clocks) t.clocks.posts q.cell m.node) asked
            ∙ ap (λ b. (if b then clock_of o.move t.clocks else t.clocks.posts q.cell) m.node)
            (eq-eqb q.cell q.cell refl)

        apart : PostsApart chip done take.event (events_in take.back) m.node q.cell
        apart = record {
          mid = events_in post.front;
          post = post.event;
          rest = events_in post.back;
          cut = ap events_in post.cut ∙ map-append (λ (one : ℕ × Event). one.1) post.front
              ((post.turn, post.event) ∷ post.back);
          posts = record {
            move = o.move;
            made = o.made;
            side = side;
            word = race.left_out.word;
            asked = asked;
          };
          early = subst (λ k. k < steps) (sym clock_is) early;
        }

  of_posted : IsPostedIn (watch_on first (among.before ++ among.step ∷ [])) among.later race
      → Shown
  of_posted q =
      let post = at_step (happened now take.event) take.back q.mid q.post q.rest
      (take.back_is ∙ q.cut) in
      subst (λ c. (o : One c post.event) → step_of post.turn o.makes.part.state o.move ≡ q.post
      → Shown) (ran-append chip done (take.event ∷ events_in post.front)) (posted_at q post)
      post.one post.is

  pub race_found : Shown
  race_found = by among.comes
    where
      by : IsPending (watch_on first among.before).words race
          ⊎ IsPostedIn (watch_on first (among.before ++ among.step ∷ [])) among.later race → Shown
      by (inl p) = of_pending p
      by (inr q) = of_posted q

-- A RACE THAT IS KEPT IS ONE OF THE RUN
pub watch_shows : WatchShows
watch_shows chip events race legal among =
    let shown = race_found chip events race legal among in (shown.found, shown.is)

-- and one of the turns
pub race_shown : (chip : Chip) (turns : ℕ) (race : Race) → IsLegal chip
    → IsAmong chip.cells (steps_seen chip (turns_numbered turns)) race
    → (found : HasRace chip (turns_of turns)) × IsRaceOf chip (turns_of turns) found race
race_shown chip turns race legal among =
    subst (λ (es : List Event). (found : HasRace chip es) × IsRaceOf chip es found race)
    (plain_turns turns) (watch_shows chip (turns_numbered turns) race legal among)
