-- If the track finds no race, the run has none.
use Rattle.std.proofs.Common.{◌≡◌, ℕ, ◌+◌, ◌≤◌, ◌==◌, Bool, true, false, List, [], ◌∷◌, ◌++◌, ◌⊎◌, inl, inr, length, Option, Some, None, refl, sym, ap, ap₂, ◌∙◌, subst, append_assoc, length-append, arith}
use Rattle.std.specs.Prelude.{◌&&◌, ◌||◌, not, nat_lt, max, if◌then◌else◌, is_some}
use Rattle.std.specs.List.{list_any}
use Rattle.std.specs.Option.{option_map_or}
use Rattle.std.proofs.Math.Nat.{le-max_left}
use Rattle.std.proofs.lemmas.Bool.{cases_eq, eq-eqb, eqb-true, false≢true, ne_eqb}
use Rattle.ga_place.specs.Node.{IsNodeName}
use Rattle.ga_place.specs.Cell.{cell_of, read_cell}
use Rattle.ga_place.specs.Side.{SIDES, neighbour_of, side_bit}
use Rattle.ga_place.specs.declared.side.Side.{Side}
use Rattle.ga_place.specs.declared.side.Side.TheVariants.{Right, Down, Left, Up}
use Rattle.ga_place.proofs.Cells.{neighbour_there, one_reader, reader_there, same_bit}
use Rattle.ga_place.proofs.SideLemmas.{neighbour_of-IsNodeName}
use Rattle.ga_node.specs.Need.{need_of}
use Rattle.ga_chip.specs.Part.{Asks, Post}
use Rattle.ga_chip.specs.Chip.{Chip, part_of, pending}
use Rattle.ga_chip.specs.Legal.{IsLegal}
use Rattle.ga_chip.specs.Run.{Event, Move, happened, move_in, moves, moves_of, ran}
use Rattle.ga_chip.specs.Stuck.{is_full}
use Rattle.ga_chip.proofs.Kept.{has_name, legal_kept, legal_ran}
use Rattle.ga_chip.proofs.Moments.{Makes, makes_event}
use Rattle.ga_chip.proofs.Parts.{Fits}
use Rattle.ga_chip.proofs.Runs.{moves_of-append}
use Rattle.std.proofs.lemmas.Grind.{common_steps}
use Rattle.ga_race.specs.Clocks.{Clock, Clocks, cause_of, clock_of, clocks, clocks_by, clocks_on, no_clocks, post_clocks, steps_in}
use Rattle.ga_race.specs.Races.{HasNoRace, LeavesOut, Posts}
use Rattle.ga_race.specs.Watch.{reads_cell}
use Rattle.ga_race.proofs.Tracks.{Track, track_finds, is_move_early, move_leaves, move_leaves_cell, move_leaves_out, move_leaves_word, first_track, track_on, tracked, tracked_all, tracked_by}
use Rattle.ga_race.proofs.Prefixes.{One, its_own, not_its, one_or_none, only_move}
use Rattle.ga_race.proofs.Causes.{clocks_on-append, fits_made}

-- the clock of the move's node
here_is : (m : Move) (cs : Clocks) (name : ℕ) → name ≡ m.node → (clocks_by m cs).nodes name name
    ≡ clock_of m cs name
here_is m cs name e =
    ap (λ b. (if b then clock_of m cs else cs.nodes name) name) (eq-eqb name m.node e)

tick_is : (m : Move) (cs : Clocks) (name : ℕ) → name ≡ m.node → clock_of m cs name
    ≡ max (cs.nodes m.node name) (cause_of m.asked cs name) + 1
tick_is m cs name e =
    ap (λ b. if b then max (cs.nodes m.node name) (cause_of m.asked cs name) + 1
    else max (cs.nodes m.node name) (cause_of m.asked cs name)) (eq-eqb name m.node e)

-- and of another
else_is : (m : Move) (cs : Clocks) (name : ℕ) → (name ≡ m.node → ⊥)
    → (clocks_by m cs).nodes name name ≡ cs.nodes name name
else_is m cs name apart =
    ap (λ b. (if b then clock_of m cs else cs.nodes name) name)
    (ne_eqb name m.node apart)

ticks : (old same most new length : ℕ) → old ≡ same → same ≤ most → new ≡ most + 1 → length ≡ 1
    → old + length ≤ new
ticks old same most new length a b c d = omega arith

stays : (old new length : ℕ) → new ≡ old → length ≡ 0 → old + length ≤ new
stays old new length a b = omega arith

-- A node's clock counts at least the node's own steps.
own_more : (m : Move) (cs : Clocks) (name : ℕ)
    → cs.nodes name name + length (moves_of name (m ∷ [])) ≤ (clocks_by m cs).nodes name name
own_more m cs name = by (cases_eq name m.node)
  where
    by : (name ≡ m.node) ⊎ (name ≡ m.node → ⊥) → cs.nodes name name + length
        (moves_of name (m ∷ [])) ≤ (clocks_by m cs).nodes name name
    by (inl e) =
        ticks _ (cs.nodes m.node name) (max (cs.nodes m.node name) (cause_of m.asked cs name)) _ _
        (ap (λ n. cs.nodes n name) e) (le-max_left _ _) (here_is m cs name e ∙ tick_is m cs name e)
        (ap (λ l. length l) (its_own name m e))
    by (inr apart) =
        stays _ _ _ (else_is m cs name apart) (ap (λ l. length l) (not_its name m apart))

pub own_steps : (cs : Clocks) (ms : List Move) (name : ℕ)
    → cs.nodes name name + length (moves_of name ms) ≤ (clocks_on cs ms).nodes name name
own_steps cs [] name = omega arith
own_steps cs (m ∷ ms) name =
    let first = own_more m cs name in
    let rest = own_steps (clocks_by m cs) ms name in
    let long : length (moves_of name (m ∷ ms)) ≡ length (moves_of name (m ∷ [])) + length
    (moves_of name ms) = ap (λ l. length l) (moves_of-append name (m ∷ []) ms)
    ∙ length-append (moves_of name (m ∷ [])) (moves_of name ms) in
    omega arith

-- The track has the clocks.
clocks_all : (chip : Chip) (w : Track) (ms : List Move) → (tracked_all chip w ms).clocks
    ≡ clocks_on w.clocks ms
clocks_all chip w [] = refl
clocks_all chip w (m ∷ ms) = clocks_all chip (tracked_by chip w m) ms

pub track_clocks : (chip : Chip) (w : Track) (events : List Event) → (track_on chip w events).clocks
    ≡ clocks_on w.clocks (moves chip events)
track_clocks chip w [] = refl
track_clocks chip w (event ∷ events) =
    track_clocks (happened chip event) (tracked chip w event) events
    ∙ ap (λ cs. clocks_on cs (moves (happened chip event) events))
    (clocks_all chip w (move_in chip event))
    ∙ sym (clocks_on-append w.clocks (move_in chip event) (moves (happened chip event) events))

pub track-append : (chip : Chip) (w : Track) (events more : List Event)
    → track_on chip w (events ++ more) ≡ track_on (ran chip events) (track_on chip w events) more
track-append chip w [] more = refl
track-append chip w (event ∷ events) more =
    track-append (happened chip event) (tracked chip w event) events more

-- a race that was found stays
or_left : (a b : Bool) → (a || b) ≡ false → a ≡ false
or_left true b e = e
or_left false b e = refl

or_right : (a b : Bool) → (a || b) ≡ false → b ≡ false
or_right true b e = absurd (false≢true (sym e))
or_right false b e = e

quiet_all : (chip : Chip) (w : Track) (ms : List Move) → (tracked_all chip w ms).race ≡ false
    → w.race ≡ false
quiet_all chip w [] e = e
quiet_all chip w (m ∷ ms) e = or_left w.race _ (quiet_all chip (tracked_by chip w m) ms e)

quiet_before : (chip : Chip) (w : Track) (events : List Event) → (track_on chip w events).race
    ≡ false → w.race ≡ false
quiet_before chip w [] e = e
quiet_before chip w (event ∷ events) e =
    quiet_all chip w (move_in chip event) (quiet_before (happened chip event) (tracked chip w event)
    events e)

-- any side
or_first : (a b : Bool) → a ≡ true → (a || b) ≡ true
or_first a b e = rw e refl

or_second : (a b : Bool) → b ≡ true → (a || b) ≡ true
or_second true b e = refl
or_second false b e = e

any_side : (p : Side → Bool) (side : Side) → p side ≡ true → list_any p SIDES ≡ true
any_side p Right e = or_first (p Right) (p Down || (p Left || (p Up || false))) e
any_side p Down e = or_second (p Right) _ (or_first (p Down) (p Left || (p Up || false)) e)
any_side p Left e =
    or_second (p Right) _ (or_second (p Down) _ (or_first (p Left) (p Up || false) e))
any_side p Up e =
    or_second (p Right) _ (or_second (p Down) _ (or_second (p Left) _ (or_first (p Up) false e)))

pub some_side : (p : Side → Bool) → list_any p SIDES ≡ true → (side : Side) × (p side ≡ true)
some_side p e = by (p Right) (p Down) (p Left) (p Up) refl refl refl refl e
  where
    by : (r d l u : Bool) → p Right ≡ r → p Down ≡ d → p Left ≡ l → p Up ≡ u
        → (r || (d || (l || (u || false)))) ≡ true → (side : Side) × (p side ≡ true)
    by true d l u er ed el eu e = (Right, er)
    by false true l u er ed el eu e = (Down, ed)
    by false false true u er ed el eu e = (Left, el)
    by false false false true er ed el eu e = (Up, eu)
    by false false false false er ed el eu e = absurd (false≢true e)

both_true : (a b : Bool) → a ≡ true → b ≡ true → (a && b) ≡ true
both_true a b e f = rw (e, f) refl

pub right_true : (a b : Bool) → (a && b) ≡ true → b ≡ true
right_true true b e = e
right_true false b e = absurd (false≢true e)

pub at_cell : (cell : ℕ) (o : Option ℕ) → option_map_or (λ at. at == cell) o false ≡ true → o
    ≡ Some cell
at_cell cell None e = absurd (false≢true e)
at_cell cell (Some at) e = ap Some (eqb-true at cell e)

-- A cell that was left out, from then on.
record Keeps (name cell k : ℕ) (w : Track) : Type 0 where
  left_at : k ≤ w.left_at cell
  steps : k ≤ w.clocks.nodes name name

grows : (m : Move) (cs : Clocks) (name : ℕ) → cs.nodes name name ≤ (clocks_by m cs).nodes name name
grows m cs name = let more = own_more m cs name in omega arith

pub its_clock : (m : Move) (cs : Clocks) (name : ℕ) → m.node ≡ name
    → (clocks_by m cs).nodes name name ≡ clock_of m cs m.node
its_clock m cs name e = here_is m cs name (sym e) ∙ ap (clock_of m cs) (sym e)

le_both : (a b c : ℕ) → a ≤ b → b ≤ c → a ≤ c
le_both a b c h g = omega arith

keeps_move : (chip : Chip) (w : Track) (m : Move) (name cell k : ℕ) (side : Side) → IsNodeName name
    → read_cell name side ≡ Some cell → IsNodeName m.node → Keeps name cell k w
    → Keeps name cell k (tracked_by chip w m)
keeps_move chip w m name cell k side named reads named' keeps =
    record { left_at = by (move_leaves_cell chip m cell) refl; steps = grown }
  where
    grown : k ≤ (clocks_by m w.clocks).nodes name name
    grown = le_both _ _ _ keeps.steps (grows m w.clocks name)

    by : (b : Bool) → move_leaves_cell chip m cell ≡ b → k
        ≤ (if b then clock_of m w.clocks m.node else w.left_at cell)
    by true e =
        let s = some_side (λ side. move_leaves chip m side && reads_cell m.node cell side) e in
        let here =
        at_cell cell (read_cell m.node s.0) (right_true (move_leaves chip m s.0) _ s.1) in
        let same = (one_reader m.node name cell s.0 side named' named here reads).0 in
        subst (λ n. k ≤ n) (its_clock m w.clocks name same) grown
    by false e = keeps.left_at

keeps_event : (chip : Chip) (w : Track) (event : Event) (name cell k : ℕ) (side : Side)
    → IsLegal chip → IsNodeName name → read_cell name side ≡ Some cell → Keeps name cell k w
    → Keeps name cell k (tracked chip w event)
keeps_event chip w event name cell k side legal named reads keeps = by (one_or_none chip event)
  where
    by : (move_in chip event ≡ []) ⊎ One chip event
        → Keeps name cell k (tracked_all chip w (move_in chip event))
    by (inl none) = subst (λ ms. Keeps name cell k (tracked_all chip w ms)) (sym none) keeps
    by (inr o) =
        subst (λ ms. Keeps name cell k (tracked_all chip w ms)) (sym o.made)
        (keeps_move chip w o.move name cell k side named reads
        (has_name chip o.move.node o.makes.part legal o.makes.there) keeps)

keeps_on : (chip : Chip) (w : Track) (events : List Event) (name cell k : ℕ) (side : Side)
    → IsLegal chip → IsNodeName name → read_cell name side ≡ Some cell → Keeps name cell k w
    → Keeps name cell k (track_on chip w events)
keeps_on chip w [] name cell k side legal named reads keeps = keeps
keeps_on chip w (event ∷ events) name cell k side legal named reads keeps =
    keeps_on (happened chip event) (tracked chip w event) events name cell k side
    (legal_kept chip event legal) named reads (keeps_event chip w event name cell k side legal named
    reads keeps)

not_below : (a b : ℕ) → nat_lt a b ≡ false → b ≤ a
not_below a b e = grind (arith, common_steps)

-- A TAKE THAT LEAVES OUT A CELL
module _ (chip : Chip) (before later : List Event) (event : Event) (name cell : ℕ)
    (legal : IsLegal chip) (quiet : track_finds chip (before ++ event ∷ later) ≡ false)
    (l : LeavesOut (ran chip before) event name cell) where
  legal_now : IsLegal (ran chip before)
  legal_now = legal_ran chip before legal

  makes : Makes (ran chip before) name l.move
  makes = makes_event (ran chip before) event name l.move l.made

  named : IsNodeName name
  named = has_name (ran chip before) name l.part legal_now l.there

  abbrev old : Track
  old = track_on chip first_track before

  abbrev now : Track
  now = tracked_by (ran chip before) old l.move

  is_now : track_on chip first_track (before ++ event ∷ []) ≡ now
  is_now =
      track-append chip first_track before (event ∷ [])
      ∙ ap (tracked_all (ran chip before) old) (only_move (ran chip before) event name l.move
      l.made)

  quiet_at : (done more : List Event) → before ++ event ∷ later ≡ done ++ more
      → (track_on chip first_track done).race ≡ false
  quiet_at done more e =
      quiet_before (ran chip done) (track_on chip first_track done) more
      (ap (λ w. w.race) (sym (track-append chip first_track done more))
      ∙ ap (track_finds chip) (sym e) ∙ quiet)

  quiet_now : now.race ≡ false
  quiet_now =
      ap (λ w. w.race) (sym is_now) ∙ quiet_at (before ++ event ∷ []) later
      (sym (append_assoc before (event ∷ []) later))

  leaves_it : move_leaves (ran chip before) l.move l.left_out ≡ true
  leaves_it =
      ap₂ (λ o picked. move_leaves_out o picked l.left_out)
      (ap (part_of (ran chip before)) makes.node ∙ l.there) l.picked
      ∙ both_true _ _ l.among (ap not (ne_eqb (side_bit l.left_out) (side_bit l.taken)
      (λ e. l.apart (same_bit l.left_out l.taken e))))

  reads : read_cell l.move.node l.left_out ≡ Some cell
  reads = ap (λ n. read_cell n l.left_out) makes.node ∙ l.reads

  empty : pending (ran chip before) cell ≡ None
  empty = by (pending (ran chip before) cell) refl
    where
      by : (o : Option ℕ) → pending (ran chip before) cell ≡ o → pending (ran chip before) cell
          ≡ None
      by None e = e
      by (Some word) e =
          let holds : is_full (ran chip before).cells (read_cell l.move.node l.left_out) ≡ true =
          ap (is_full (ran chip before).cells) reads ∙ ap is_some e in
          let found : move_leaves_word (ran chip before) l.move ≡ true =
          any_side (λ side. move_leaves (ran chip before) l.move side
          && is_full (ran chip before).cells (read_cell l.move.node side)) l.left_out
          (both_true _ _ leaves_it holds) in
          let none : move_leaves_word (ran chip before) l.move ≡ false =
          or_left _ _ (or_right old.race _ quiet_now) in
          absurd (false≢true (sym none ∙ found))

  leaves_at : move_leaves_cell (ran chip before) l.move cell ≡ true
  leaves_at =
      any_side (λ side. move_leaves (ran chip before) l.move side
      && reads_cell l.move.node cell side) l.left_out
      (both_true _ _ leaves_it (ap (λ o. option_map_or (λ at. at == cell) o false) reads
      ∙ eq-eqb cell cell refl))

  own_clock : steps_in chip (before ++ event ∷ []) name ≤ now.clocks.nodes name name
  own_clock =
      let all = own_steps no_clocks (moves chip (before ++ event ∷ [])) name in
      let same : (clocks chip (before ++ event ∷ [])).nodes name name ≡ now.clocks.nodes name name =
      ap (λ cs. cs.nodes name name) (sym (track_clocks chip first_track (before ++ event ∷ []))
      ∙ ap (λ w. w.clocks) is_now) in
      omega arith

  keeps : Keeps name cell (steps_in chip (before ++ event ∷ []) name) now
  keeps = record {
    left_at =
        subst (λ n. steps_in chip (before ++ event ∷ []) name ≤ n)
        (its_clock l.move old.clocks name makes.node
        ∙ ap (λ b. if b then clock_of l.move old.clocks l.move.node else old.left_at cell)
        (sym leaves_at)) own_clock;
    steps = own_clock;
  }

  -- a later post
  behind : (mid rest : List Event) (post : Event) → later ≡ mid ++ post ∷ rest
      → Posts (ran chip (before ++ event ∷ mid)) post cell
      → steps_in chip (before ++ event ∷ []) name
      ≤ (clocks chip ((before ++ event ∷ mid) ++ post ∷ [])).posts cell name
  behind mid rest post cut posts =
      le_both _ _ _ kept.left_at (subst (λ n. at_post.left_at cell ≤ n) clock_is late)
    where
      done : List Event
      done = before ++ event ∷ mid

      p : Move
      p = posts.move

      at_post : Track
      at_post = track_on chip first_track done

      parts : done ≡ (before ++ event ∷ []) ++ mid
      parts = sym (append_assoc before (event ∷ []) mid)

      post_is : at_post ≡ track_on (ran chip (before ++ event ∷ [])) now mid
      post_is =
          ap (track_on chip first_track) parts ∙ track-append chip first_track
          (before ++ event ∷ []) mid ∙ ap (λ w. track_on (ran chip (before ++ event ∷ [])) w mid)
          is_now

      kept : Keeps name cell (steps_in chip (before ++ event ∷ []) name) at_post
      kept =
          subst (Keeps name cell (steps_in chip (before ++ event ∷ []) name)) (sym post_is)
          (keeps_on (ran chip (before ++ event ∷ [])) now mid name cell _ l.left_out
          (legal_ran chip (before ++ event ∷ []) legal) named l.reads keeps)

      next_is : track_on chip first_track (done ++ post ∷ []) ≡ tracked_by (ran chip done) at_post p
      next_is =
          track-append chip first_track done (post ∷ [])
          ∙ ap (tracked_all (ran chip done) at_post) posts.made

      whole : before ++ event ∷ later ≡ (done ++ post ∷ []) ++ rest
      whole =
          ap (λ es. before ++ event ∷ es) cut ∙ sym
          (append_assoc before (event ∷ mid) (post ∷ rest))
          ∙ sym (append_assoc done (post ∷ []) rest)

      quiet_next : (tracked_by (ran chip done) at_post p).race ≡ false
      quiet_next = ap (λ w. w.race) (sym next_is) ∙ quiet_at (done ++ post ∷ []) rest whole

      not_early : is_move_early (Post posts.side cell posts.word) p.node (clock_of p at_post.clocks)
          at_post.left_at ≡ false
      not_early =
          ap (λ q. is_move_early q p.node (clock_of p at_post.clocks) at_post.left_at)
          (sym posts.asked) ∙ or_right (move_leaves_word (ran chip done) p)
          (is_move_early p.asked p.node (clock_of p at_post.clocks) at_post.left_at)
          (or_right at_post.race (move_leaves_word (ran chip done) p
          || is_move_early p.asked p.node (clock_of p at_post.clocks) at_post.left_at) quiet_next)

      made : moves_of p.node (move_in (ran chip done) post) ≡ p ∷ []
      made = ap (moves_of p.node) posts.made ∙ its_own p.node p refl

      makes_post : Makes (ran chip done) p.node p
      makes_post = makes_event (ran chip done) post p.node p made

      named_post : IsNodeName p.node
      named_post =
          has_name (ran chip done) p.node makes_post.part (legal_ran chip done legal)
          makes_post.there

      writes : cell_of p.node posts.side ≡ Some cell
      writes =
          (subst (λ q. Fits q (need_of makes_post.part.state) p.node) posts.asked
          (fits_made (ran chip done) p.node p makes_post (legal_ran chip done legal))).0

      next : neighbour_of p.node posts.side ≡ Some name
      next =
          let other = neighbour_there p.node cell posts.side writes in
          let named' : IsNodeName other.0 =
          neighbour_of-IsNodeName p.node other.0 posts.side named_post other.1 in
          let reads' = reader_there p.node other.0 cell posts.side named_post writes other.1 in
          other.1 ∙ ap Some (one_reader other.0 name cell posts.side l.left_out named' named reads'
          l.reads).0

      late : at_post.left_at cell ≤ clock_of p at_post.clocks name
      late =
          not_below (clock_of p at_post.clocks name) (at_post.left_at cell)
          (ap (λ o. option_map_or (λ reader. nat_lt (clock_of p at_post.clocks reader)
          (at_post.left_at cell)) o false) (sym next) ∙ not_early)

      post_clock : (q : Asks) → q ≡ Post posts.side cell posts.word → (w : Clock)
          → post_clocks q w at_post.clocks.posts cell ≡ w
      post_clock q e w =
          ap (λ q. post_clocks q w at_post.clocks.posts cell) e ∙ rw (eq-eqb cell cell refl) refl

      clock_is : clock_of p at_post.clocks name ≡ (clocks chip (done ++ post ∷ [])).posts cell name
      clock_is =
          ap (λ c. c name) (sym (post_clock p.asked posts.asked (clock_of p at_post.clocks)))
          ∙ ap (λ w. w.clocks.posts cell name) (sym next_is)
          ∙ ap (λ cs. cs.posts cell name) (track_clocks chip first_track (done ++ post ∷ []))

-- THE TRACK FINDS ALL RACES
pub finds_all : (chip : Chip) (events : List Event) → IsLegal chip → track_finds chip events ≡ false
    → HasNoRace chip events
finds_all chip events legal quiet before later event name cell cut l =
    let q : track_finds chip (before ++ event ∷ later) ≡ false =
    ap (track_finds chip) (sym cut) ∙ quiet in
    record {
      empty = empty chip before later event name cell legal q l;
      comes_after = behind chip before
          later event name cell legal q l;
    }
