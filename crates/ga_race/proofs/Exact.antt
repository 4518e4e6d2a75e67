-- The track finds only races: if it finds one, the run has one.
use Rattle.std.proofs.Common.{◌≡◌, ℕ, ◌≤◌, ◌<◌, ◌==◌, Bool, true, false, List, [], ◌∷◌, ◌++◌, ◌⊎◌, inl, inr, Option, Some, None, refl, sym, ap, ◌∙◌, subst, append_assoc, append-nil, arith}
use Rattle.std.specs.Prelude.{◌&&◌, ◌||◌, not, nat_lt, if◌then◌else◌, is_some, IsSome}
use Rattle.std.specs.Option.{option_map_or}
use Rattle.std.proofs.lemmas.Bool.{and_parts, eq-eqb, false≢true}
use Rattle.std.proofs.lemmas.Grind.{common_steps}
use Rattle.ga_place.specs.Node.{IsNodeName}
use Rattle.ga_place.specs.Cell.{cell_of, read_cell}
use Rattle.ga_place.specs.Side.{neighbour_of, one_side, side_bit}
use Rattle.ga_place.specs.declared.side.Side.{Side}
use Rattle.ga_place.proofs.Cells.{one_reader, reader_there}
use Rattle.ga_place.proofs.SideLemmas.{neighbour_of-IsNodeName}
use Rattle.ga_node.specs.Need.{need_of, takes_at}
use Rattle.ga_node.specs.declared.need.Need.{Need}
use Rattle.ga_node.specs.declared.need.Need.TheVariants as need
use Rattle.ga_chip.specs.Part.{Asks, Nothing, Own, Feed, Post, Take, Check, picked_by, picked_of}
use Rattle.ga_chip.specs.Chip.{Chip, pending}
use Rattle.ga_chip.specs.Legal.{IsLegal}
use Rattle.ga_chip.specs.Run.{Event, Move, move_in, moves, moves_of, ran}
use Rattle.ga_chip.specs.Stuck.{is_full}
use Rattle.ga_chip.proofs.Kept.{has_name, legal_ran}
use Rattle.ga_chip.proofs.Parts.{Fits}
use Rattle.ga_race.specs.Clocks.{Clock, clock_of, clocks, post_clocks, steps_in}
use Rattle.ga_race.specs.Races.{HasNoRace, IsOrdered, LeavesOut, Posts}
use Rattle.ga_race.proofs.Tracks.{Track, first_track, is_move_early, move_leaves, move_leaves_cell, move_leaves_out, move_leaves_word, track_finds, track_on, tracked_all, tracked_by}
use Rattle.ga_race.specs.Differs.{HasRace, PostsApart}
use Rattle.ga_race.proofs.Causes.{fits_made, has_causes}
use Rattle.ga_race.proofs.Prefixes.{One, prefixes_agree, its_own, one_or_none, prefix_self}
use Rattle.ga_race.specs.Watch.{reads_cell}
use Rattle.ga_race.proofs.Watching.{at_cell, its_clock, some_side, track-append, track_clocks}

-- the sides that a move names are one at most
picked_one : (n : Need) (s taken : Side) (more : List Side) → picked_by n s ≡ taken ∷ more
    → more ≡ []
picked_one (need.Take sides) s taken more e = by (one_side sides) e
  where
    by : (o : Option Side) → picked_of o s ≡ taken ∷ more → more ≡ []
    by (Some only) f = cc
    by None f = cc
picked_one need.Own s taken more e = cc
picked_one (need.Post to word) s taken more e = cc
picked_one (need.Check to) s taken more e = cc
picked_one need.Input s taken more e = cc
picked_one (need.Stopped stop) s taken more e = cc

-- a move that leaves out a side
leaves_from : (chip : Chip) (event : Event) (o : One chip event) (side : Side) (cell : ℕ)
    → move_leaves chip o.move side ≡ true → read_cell o.move.node side ≡ Some cell
    → LeavesOut chip event o.move.node cell
leaves_from chip event o side cell e reads =
    go o.move.picked refl (sym (ap (λ p. move_leaves_out p o.move.picked side) o.makes.there) ∙ e)
  where
    go : (picked : List Side) → o.move.picked ≡ picked
        → move_leaves_out (Some o.makes.part) picked side ≡ true
        → LeavesOut chip event o.move.node cell
    go [] f h = absurd (false≢true h)
    go (taken ∷ more) f h = record {
      part = o.makes.part;
      there = o.makes.there;
      move = o.move;
      made = ap (moves_of o.move.node) o.made ∙ its_own o.move.node o.move refl;
      taken = taken;
      picked = f ∙ ap (λ l. taken ∷ l) (picked_one (need_of o.makes.part.state) o.makes.side taken
          more (sym o.makes.picks ∙ f));
      left_out = side;
      apart = λ same. false≢true
          (sym (ap not (eq-eqb (side_bit side) (side_bit taken) (ap side_bit same)))
          ∙ (and_parts (takes_at side (need_of o.makes.part.state))
          (not (side_bit side == side_bit taken)) h).1);
      among = (and_parts (takes_at side (need_of o.makes.part.state))
          (not (side_bit side == side_bit taken)) h).0;
      reads = reads;
    }

-- A moment at which a cell was left out, by a node that had then made this many steps.
record Left (chip : Chip) (done : List Event) (cell k : ℕ) : Type 0 where
  before : List Event
  event : Event
  later : List Event
  name : ℕ
  cut : done ≡ before ++ event ∷ later
  leaves_it : LeavesOut (ran chip before) event name cell
  steps : k ≤ steps_in chip (before ++ event ∷ []) name

-- the track at a moment of a run
abbrev upto : Chip → List Event → Track
upto chip done = track_on chip first_track done

-- What the track keeps is so: each cell that it knows was left out, and a race that it found is
-- one.
record Sound (chip : Chip) (done : List Event) : Type 0 where
  left : (cell : ℕ) → ((upto chip done).left_at cell ≡ 0)
      ⊎ Left chip done cell ((upto chip done).left_at cell)
  race : (upto chip done).race ≡ true → HasRace chip done

-- a cell that holds a word
full_word : (cells : List (Option ℕ)) (at : Option ℕ) → is_full cells at ≡ true
    → (cell : ℕ) × (at ≡ Some cell) × (is_full cells (Some cell) ≡ true)
full_word cells None e = absurd (false≢true e)
full_word cells (Some cell) e = (cell, refl, e)

-- what a test of order shows
below : (a b : ℕ) → nat_lt a b ≡ true → a < b
below a b e = grind (arith, common_steps)

-- one of three is true
one_true : (a b c : Bool) → (a || (b || c)) ≡ true → (a ≡ true) ⊎ ((b ≡ true) ⊎ (c ≡ true))
one_true true b c e = inl refl
one_true false true c e = inr (inl refl)
one_true false false c e = inr (inr e)

-- with one event more a cell was left out where it was
longer : (chip : Chip) (done : List Event) (event : Event) (cell k : ℕ) → Left chip done cell k
    → Left chip (done ++ event ∷ []) cell k
longer chip done event cell k l = record {
  before = l.before;
  event = l.event;
  later = l.later ++ event ∷ [];
  name = l.name;
  cut = ap (λ es. es ++ event ∷ []) l.cut ∙ append_assoc l.before (l.event ∷ l.later) (event ∷ []);
  leaves_it = l.leaves_it;
  steps = l.steps;
}

-- so the same cells were left out
kept_left : (chip : Chip) (done : List Event) (event : Event) (cell k : ℕ)
    → (k ≡ 0) ⊎ Left chip done cell k → (k ≡ 0) ⊎ Left chip (done ++ event ∷ []) cell k
kept_left chip done event cell k (inl none) = inl none
kept_left chip done event cell k (inr l) = inr (longer chip done event cell k l)

-- and the same races are there
longer_race : (chip : Chip) (done : List Event) (event : Event) → HasRace chip done
    → HasRace chip (done ++ event ∷ [])
longer_race chip done event r = record {
  before = r.before;
  event = r.event;
  later = r.later ++ event ∷ [];
  cut = ap (λ es. es ++ event ∷ []) r.cut ∙ append_assoc r.before (r.event ∷ r.later) (event ∷ []);
  name = r.name;
  cell = r.cell;
  leaves = r.leaves;
  comes = by r.comes;
}
  where
    by : IsSome (pending (ran chip r.before) r.cell)
        ⊎ PostsApart chip r.before r.event r.later r.name r.cell
        → IsSome (pending (ran chip r.before) r.cell)
        ⊎ PostsApart chip r.before r.event (r.later ++ event ∷ []) r.name r.cell
    by (inl some) = inl some
    by (inr p) = inr (record {
      mid = p.mid;
      post = p.post;
      rest = p.rest ++ event ∷ [];
      cut = ap (λ es. es ++ event ∷ []) p.cut ∙ append_assoc p.mid (p.post ∷ p.rest) (event ∷ []);
      posts = p.posts;
      early = p.early;
    })

module _ (chip : Chip) (done : List Event) (event : Event) (legal : IsLegal chip)
    (s : Sound chip done) (o : One (ran chip done) event) where
  -- the track before the move
  abbrev old : Track
  old = upto chip done

  -- the move
  abbrev m : Move
  m = o.move

  -- the track behind it
  next_is : upto chip (done ++ event ∷ []) ≡ tracked_by (ran chip done) old m
  next_is =
      track-append chip first_track done (event ∷ [])
      ∙ ap (tracked_all (ran chip done) old) o.made

  -- its node has a name
  named : IsNodeName m.node
  named =
      has_name (ran chip done) m.node o.makes.part (legal_ran chip done legal) o.makes.there

  -- A WORD IS LEFT
  word_left : move_leaves_word (ran chip done) m ≡ true → HasRace chip (done ++ event ∷ [])
  word_left e =
      let side = some_side (λ at. move_leaves (ran chip done) m at
      && is_full (ran chip done).cells (read_cell m.node at)) e in
      let left = and_parts (move_leaves (ran chip done) m side.0)
      (is_full (ran chip done).cells (read_cell m.node side.0)) side.1 in
      let it = full_word (ran chip done).cells (read_cell m.node side.0) left.1 in
      record {
        before = done;
        event = event;
        later = [];
        cut = refl;
        name = m.node;
        cell = it.0;
        leaves = leaves_from (ran chip done) event o side.0 it.0 left.0 it.1;
        comes = inl it.2;
      }

  -- A POST IS EARLY
  early_post : (q : Asks) → m.asked ≡ q
      → is_move_early q m.node (clock_of m old.clocks) old.left_at ≡ true
      → HasRace chip (done ++ event ∷ [])
  early_post (Post side cell word) e h = by_reader (neighbour_of m.node side) refl h
    where
      writes : cell_of m.node side ≡ Some cell
      writes =
          (subst (λ q. Fits q (need_of o.makes.part.state) m.node) e
          (fits_made (ran chip done) m.node m o.makes (legal_ran chip done legal))).0

      post_clock : (w : Clock) → post_clocks m.asked w old.clocks.posts cell ≡ w
      post_clock w =
          ap (λ q. post_clocks q w old.clocks.posts cell) e
          ∙ ap (λ b. if b then w else old.clocks.posts cell) (eq-eqb cell cell refl)

      found : (reader k : ℕ) → neighbour_of m.node side ≡ Some reader
          → clock_of m old.clocks reader < k → (k ≡ 0) ⊎ Left chip done cell k
          → HasRace chip (done ++ event ∷ [])
      found reader k there less (inl none) = absurd (omega arith)
      found reader k there less (inr l) =
          let same : reader ≡ l.name =
          (one_reader reader l.name cell side l.leaves_it.left_out
          (neighbour_of-IsNodeName m.node reader side named there)
          (has_name (ran chip l.before) l.name l.leaves_it.part
          (legal_ran chip l.before legal) l.leaves_it.there)
          (reader_there m.node reader cell side named writes there) l.leaves_it.reads).0 in
          let clock : (clocks chip ((l.before ++ l.event ∷ l.later) ++ event ∷ [])).posts cell
          l.name ≡ clock_of m old.clocks reader =
          ap (λ es. (clocks chip (es ++ event ∷ [])).posts cell l.name) (sym l.cut)
          ∙ ap (λ cs. cs.posts cell l.name)
          (sym (track_clocks chip first_track (done ++ event ∷ [])))
          ∙ ap (λ w. w.clocks.posts cell l.name) next_is
          ∙ ap (λ c. c l.name) (post_clock (clock_of m old.clocks))
          ∙ ap (clock_of m old.clocks) (sym same) in
          let enough : k ≤ steps_in chip (l.before ++ l.event ∷ []) l.name = l.steps in
          record {
            before = l.before;
            event = l.event;
            later = l.later ++ event ∷ [];
            cut = ap (λ es. es ++ event ∷ []) l.cut
                ∙ append_assoc l.before (l.event ∷ l.later) (event ∷ []);
            name = l.name;
            cell = cell;
            leaves = l.leaves_it;
            comes = inr (record {
              mid = l.later;
              post = event;
              rest = [];
              cut = refl;
              posts = subst (λ es. Posts (ran chip es) event cell) l.cut (record {
                move = m;
                made = o.made;
                side = side;
                word = word;
                asked = e;
              });
              early = omega arith;
            });
          }

      by_reader : (n : Option ℕ) → neighbour_of m.node side ≡ n
          → option_map_or (λ reader. nat_lt (clock_of m old.clocks reader) (old.left_at cell)) n
          false ≡ true → HasRace chip (done ++ event ∷ [])
      by_reader None there h = absurd (false≢true h)
      by_reader (Some reader) there h =
          found reader (old.left_at cell) there
          (below (clock_of m old.clocks reader) (old.left_at cell) h) (s.left cell)
  early_post (Nothing outcome) e h = absurd (false≢true h)
  early_post Own e h = absurd (false≢true h)
  early_post (Feed word) e h = absurd (false≢true h)
  early_post (Take side cell) e h = absurd (false≢true h)
  early_post (Check side cell) e h = absurd (false≢true h)

  -- no clock runs ahead of its node's steps
  steps_enough : clock_of m old.clocks m.node ≤ steps_in chip (done ++ event ∷ []) m.node
  steps_enough =
      let all = (has_causes chip (done ++ event ∷ []) (done ++ event ∷ []) legal
      (λ n. prefixes_agree (moves_of n (moves chip (done ++ event ∷ [])))
      (moves_of n (moves chip (done ++ event ∷ [])))
      (moves_of n (moves chip (done ++ event ∷ [])))
      (prefix_self (moves_of n (moves chip (done ++ event ∷ []))))
      (prefix_self (moves_of n (moves chip (done ++ event ∷ [])))))).nodes m.node m.node
      (omega arith) in
      subst (λ k. k ≤ steps_in chip (done ++ event ∷ []) m.node)
      (ap (λ cs. cs.nodes m.node m.node)
      (sym (track_clocks chip first_track (done ++ event ∷ [])))
      ∙ ap (λ w. w.clocks.nodes m.node m.node) next_is ∙ its_clock m old.clocks m.node refl) all

  -- the cells left out behind the move
  left_next : (cell : ℕ) → ((tracked_by (ran chip done) old m).left_at cell ≡ 0)
      ⊎ Left chip (done ++ event ∷ []) cell ((tracked_by (ran chip done) old m).left_at cell)
  left_next cell = by (move_leaves_cell (ran chip done) m cell) refl
    where
      by : (b : Bool) → move_leaves_cell (ran chip done) m cell ≡ b
          → ((if b then clock_of m old.clocks m.node else old.left_at cell) ≡ 0)
          ⊎ Left chip (done ++ event ∷ []) cell
          (if b then clock_of m old.clocks m.node else old.left_at cell)
      by true e =
          let side = some_side (λ at. move_leaves (ran chip done) m at
          && reads_cell m.node cell at) e in
          let left = and_parts (move_leaves (ran chip done) m side.0)
          (reads_cell m.node cell side.0)
          side.1 in
          let reads = at_cell cell (read_cell m.node side.0) left.1 in
          inr (record {
            before = done;
            event = event;
            later = [];
            name = m.node;
            cut = refl;
            leaves_it = leaves_from (ran chip done) event o side.0 cell left.0 reads;
            steps = steps_enough;
          })
      by false e = kept_left chip done event cell (old.left_at cell) (s.left cell)

  -- so what the track keeps is so behind a move
  sound_one : Sound chip (done ++ event ∷ [])
  sound_one = record {
    left = λ cell. subst (λ w. (w.left_at cell ≡ 0)
        ⊎ Left chip (done ++ event ∷ []) cell (w.left_at cell)) (sym next_is) (left_next cell);
    race = λ e. by (one_true old.race (move_leaves_word (ran chip done) m)
        (is_move_early m.asked m.node (clock_of m old.clocks) old.left_at)
        (ap (λ w. w.race) (sym next_is) ∙ e));
  }
    where
      by : (old.race ≡ true) ⊎ ((move_leaves_word (ran chip done) m ≡ true)
          ⊎ (is_move_early m.asked m.node (clock_of m old.clocks) old.left_at ≡ true))
          → HasRace chip (done ++ event ∷ [])
      by (inl was) = longer_race chip done event (s.race was)
      by (inr (inl word)) = word_left word
      by (inr (inr early)) = early_post m.asked refl early

-- an event that is no move adds none
sound_none : (chip : Chip) (done : List Event) (event : Event) → move_in (ran chip done) event ≡ []
    → Sound chip done → Sound chip (done ++ event ∷ [])
sound_none chip done event none s = record {
  left = λ cell. subst (λ w. (w.left_at cell ≡ 0)
      ⊎ Left chip (done ++ event ∷ []) cell (w.left_at cell)) (sym same)
      (kept_left chip done event cell ((upto chip done).left_at cell) (s.left cell));
  race = λ e. longer_race chip done event (s.race (ap (λ w. w.race) (sym same) ∙ e));
}
  where
    same : upto chip (done ++ event ∷ []) ≡ upto chip done
    same =
        track-append chip first_track done (event ∷ [])
        ∙ ap (tracked_all (ran chip done) (upto chip done)) none

-- so what the track keeps is so along the run
sound_on : (chip : Chip) (done rest : List Event) → IsLegal chip → Sound chip done
    → Sound chip (done ++ rest)
sound_on chip done [] legal s = subst (Sound chip) (sym (append-nil done)) s
sound_on chip done (event ∷ rest) legal s =
    subst (Sound chip) (append_assoc done (event ∷ []) rest)
    (sound_on chip (done ++ event ∷ []) rest legal (by (one_or_none (ran chip done) event)))
  where
    by : (move_in (ran chip done) event ≡ []) ⊎ One (ran chip done) event
        → Sound chip (done ++ event ∷ [])
    by (inl none) = sound_none chip done event none s
    by (inr o) = sound_one chip done event legal s o

-- A RACE THAT THE WATCH FINDS IS ONE
pub finds : (chip : Chip) (events : List Event) → IsLegal chip → track_finds chip events ≡ true
    → HasRace chip events
finds chip events legal =
    (sound_on chip [] events legal
    (record { left = λ cell. inl refl; race = λ e. absurd (false≢true e) })).race

-- a run with a race isn't one without
not_both : (chip : Chip) (events : List Event) → HasNoRace chip events → HasRace chip events → ⊥
not_both chip events none r = by r.comes
  where
    ordered : IsOrdered chip r.before r.event r.later r.name r.cell
    ordered = none r.before r.later r.event r.name r.cell r.cut r.leaves

    by : IsSome (pending (ran chip r.before) r.cell)
        ⊎ PostsApart chip r.before r.event r.later r.name r.cell → ⊥
    by (inl some) = false≢true (ap is_some (sym ordered.empty) ∙ some)
    by (inr p) =
        let comes_after = ordered.comes_after p.mid p.rest p.post p.cut p.posts in
        let early = p.early in
        absurd (omega arith)

-- THE TRACK FINDS ONLY RACES
pub finds_only : (chip : Chip) (events : List Event) → IsLegal chip → HasNoRace chip events
    → track_finds chip events ≡ false
finds_only chip events legal none = by (track_finds chip events) refl
  where
    by : (b : Bool) → track_finds chip events ≡ b → track_finds chip events ≡ false
    by true e = absurd (not_both chip events none (finds chip events legal e))
    by false e = e
