-- The moves of a run that don't come behind a node's step by causes: they can be made without the
-- others. By induction along the run: a node all of whose steps are among them is as it was, and a
-- cell all of whose posts and takes are among them holds what it held.
use Rattle.std.proofs.Common.{◌≡◌, ℕ, ◌+◌, ◌<◌, ◌≤◌, Bool, true, List, [], ◌∷◌, ◌++◌, ◌⊎◌, inl, inr, length, Option, Some, None, refl, sym, ap, ap₂, ◌∙◌, subst, append-nil, append_assoc, length-append, zero-le, arith}
use Rattle.std.specs.Prelude.{◌&&◌, if◌then◌else◌}
use Rattle.std.specs.Option.{option_to_list}
use Rattle.std.specs.List.{list_all}
use Rattle.std.proofs.Math.Nat.{le_trans}
use Rattle.std.proofs.lemmas.Bool.{and_parts, cases_eq, cases_lt, eq-eqb, ne_eqb}
use Rattle.std.proofs.lemmas.List.{append_cancel_left}
use Rattle.std.proofs.lemmas.List.Folds.{list_all-append}
use Rattle.std.proofs.lemmas.List.Concat.{flat_map-append}
use Rattle.ga_place.specs.Node.{IsNodeName}
use Rattle.ga_place.specs.Cell.{cell_of, read_cell}
use Rattle.ga_place.specs.declared.side.Side.{Side}
use Rattle.ga_node.specs.Need.{need_of}
use Rattle.ga_chip.specs.declared.outcome.Try as asked
use Rattle.ga_chip.specs.Part.{Asks, Nothing, Own, Feed, Post, Check, Take}
use Rattle.ga_chip.specs.Chip.{Chip, found_by, part_of, pending}
use Rattle.ga_chip.specs.Run.{Event, Move, Try, happened, is_open, move_in, moves, moves_of, piece_of, posted_by, ran, taken_by, words_fed}
use Rattle.ga_chip.specs.Legal.{IsLegal}
use Rattle.ga_chip.proofs.Kept.{has_name, legal_ran}
use Rattle.ga_chip.proofs.Parts.{Fits, asks_fits}
use Rattle.ga_chip.proofs.Runs.{flow_ran, moves_of-append, posts, posts_ran, ran-append, takes, takes_ran}
use Rattle.ga_race.specs.Clocks.{Clock, Clocks, cause_of, clock_of, clocks_by, clocks_on, post_clocks, take_clocks}
use Rattle.ga_race.specs.inner.Way.{apart_by}
use Rattle.ga_race.proofs.Causes.{clocks_on-append}
use Rattle.ga_race.proofs.Following.{below, not_below}
use Rattle.ga_race.proofs.Prefixes.{One, moves_next, not_its, one_or_none}
use Rattle.ga_race.proofs.Ticking.{clock_cause, clock_more, clock_own, grows_all, node_grows, node_here}
use Rattle.ga_race.proofs.Trying.{Changes, IsTry, TriesAlike, Tried, changed_other, changed_same, none_tried, part_other, same_move, same_part, tried_move, try_or_changes}

-- ---- what a move does to a cell

-- A move posts nothing in a cell, and leaves the clock of the last post there.
record PostsNot (q : Asks) (cell : ℕ) : Type 0 where
  none : posted_by cell q ≡ []
  clocks : (clock : Clock) (cs : ℕ → Clock) → post_clocks q clock cs cell ≡ cs cell

-- A move posts a word there, and its clock is that of the last post.
record PostsHere (q : Asks) (cell : ℕ) : Type 0 where
  side : Side
  word : ℕ
  asked : q ≡ Post side cell word
  clocks : (clock : Clock) (cs : ℕ → Clock) → post_clocks q clock cs cell ≡ clock

-- a move does one of the two
posts_at : (q : Asks) (cell : ℕ) → PostsNot q cell ⊎ PostsHere q cell
posts_at (Post side at word) cell = by (cases_eq at cell)
  where
    by : (at ≡ cell) ⊎ (at ≡ cell → ⊥)
        → PostsNot (Post side at word) cell ⊎ PostsHere (Post side at word) cell
    by (inl e) = inr (record {
      side = side;
      word = word;
      asked = ap (λ c. Post side c word) e;
      clocks = λ clock cs. ap (λ b. if b then clock else cs cell) (eq-eqb cell at (sym e));
    })
    by (inr apart) = inl (record {
      none = rw (ne_eqb at cell apart) refl;
      clocks = λ clock cs. ap (λ b. if b then clock else cs cell)
          (ne_eqb cell at (λ e. apart (sym e)));
    })
posts_at (Nothing outcome) cell = inl (record { none = refl; clocks = λ clock cs. refl })
posts_at Own cell = inl (record { none = refl; clocks = λ clock cs. refl })
posts_at (Feed word) cell = inl (record { none = refl; clocks = λ clock cs. refl })
posts_at (Take side at) cell = inl (record { none = refl; clocks = λ clock cs. refl })
posts_at (Check side at) cell = inl (record { none = refl; clocks = λ clock cs. refl })

-- A move takes nothing from a cell, and leaves the clock of the last take there.
record TakesNot (q : Asks) (cell : ℕ) : Type 0 where
  none : (found : Option ℕ) → taken_by cell q found ≡ []
  clocks : (clock : Clock) (cs : ℕ → Clock) → take_clocks q clock cs cell ≡ cs cell

-- A move takes from it, and its clock is that of the last take.
record TakesHere (q : Asks) (cell : ℕ) : Type 0 where
  side : Side
  asked : q ≡ Take side cell
  clocks : (clock : Clock) (cs : ℕ → Clock) → take_clocks q clock cs cell ≡ clock

-- a move does one of the two
takes_at : (q : Asks) (cell : ℕ) → TakesNot q cell ⊎ TakesHere q cell
takes_at (Take side at) cell = by (cases_eq at cell)
  where
    none : (at ≡ cell → ⊥) → (found : Option ℕ) → taken_by cell (Take side at) found ≡ []
    none apart None = refl
    none apart (Some word) = rw (ne_eqb at cell apart) refl

    by : (at ≡ cell) ⊎ (at ≡ cell → ⊥)
        → TakesNot (Take side at) cell ⊎ TakesHere (Take side at) cell
    by (inl e) = inr (record {
      side = side;
      asked = ap (λ c. Take side c) e;
      clocks = λ clock cs. ap (λ b. if b then clock else cs cell) (eq-eqb cell at (sym e));
    })
    by (inr apart) = inl (record {
      none = none apart;
      clocks = λ clock cs. ap (λ b. if b then clock else cs cell)
          (ne_eqb cell at (λ e. apart (sym e)));
    })
takes_at (Nothing outcome) cell = inl (record { none = λ found. refl; clocks = λ clock cs. refl })
takes_at Own cell = inl (record { none = λ found. refl; clocks = λ clock cs. refl })
takes_at (Feed word) cell = inl (record { none = λ found. refl; clocks = λ clock cs. refl })
takes_at (Post side at word) cell =
    inl (record { none = λ found. refl; clocks = λ clock cs. refl })
takes_at (Check side at) cell = inl (record { none = λ found. refl; clocks = λ clock cs. refl })

-- ---- what one move more adds

-- to the moves of a node
push_moves : (x : ℕ) (ms : List Move) (m : Move)
    → moves_of x (ms ++ m ∷ []) ≡ moves_of x ms ++ moves_of x (m ∷ [])
push_moves x ms m = moves_of-append x ms (m ∷ [])

-- to the words posted in a cell
pub push_posts : (cell : ℕ) (ms : List Move) (m : Move)
    → posts cell (ms ++ m ∷ []) ≡ posts cell ms ++ posted_by cell m.asked
push_posts cell ms m =
    flat_map-append (λ move. posted_by cell move.asked) ms (m ∷ [])
    ∙ ap (λ l. posts cell ms ++ l) (append-nil (posted_by cell m.asked))

-- to the words taken from it
push_takes : (cell : ℕ) (ms : List Move) (m : Move)
    → takes cell (ms ++ m ∷ []) ≡ takes cell ms ++ taken_by cell m.asked m.found
push_takes cell ms m =
    flat_map-append (λ move. taken_by cell move.asked move.found) ms (m ∷ [])
    ∙ ap (λ l. takes cell ms ++ l) (append-nil (taken_by cell m.asked m.found))

-- to the number of a node's moves
push_long : (x : ℕ) (ms : List Move) (m : Move)
    → length (moves_of x (ms ++ m ∷ [])) ≡ length (moves_of x ms) + length (moves_of x (m ∷ []))
push_long x ms m =
    ap (λ l. length l) (push_moves x ms m) ∙ length-append (moves_of x ms) (moves_of x (m ∷ []))

-- what is no more stays so where both grow as much
more_both : (a b c d n : ℕ) → c ≡ a + n → d ≡ b + n → a ≤ b → c ≤ d
more_both a b c d n e f h = omega arith

-- and where the greater grows
more_one : (a b d n : ℕ) → d ≡ b + n → a ≤ b → a ≤ d
more_one a b d n f h = omega arith

-- ---- what a try finds

-- a list of one or none shows what it was made of
same_option : {A : Type 0} (p q : Option A) → option_to_list p ≡ option_to_list q → p ≡ q
same_option None None e = refl
same_option None (Some y) e = cc
same_option (Some x) None e = cc
same_option (Some x) (Some y) e = cc

-- a cell at which the same was posted and taken holds the same
pub same_pending : (start : Chip) (one two : List Event) (cell : ℕ) → IsLegal start
    → posts cell (moves start one) ≡ posts cell (moves start two)
    → takes cell (moves start one) ≡ takes cell (moves start two)
    → pending (ran start one) cell ≡ pending (ran start two) cell
same_pending start one two cell legal posted taken =
    same_option (pending (ran start one) cell) (pending (ran start two) cell)
    (append_cancel_left (takes cell (moves start two)) _ _
    (ap (λ l. l ++ option_to_list (pending (ran start one) cell)) (sym taken)
    ∙ sym (flow_ran start one cell legal)
    ∙ ap (λ l. option_to_list (pending start cell) ++ l) posted ∙ flow_ran start two cell legal))

-- a try finds the same where its cell holds the same
same_found : (q : Asks) (one two : Chip) → ((side : Side) (cell : ℕ) → q ≡ Take side cell
    → pending one cell ≡ pending two cell) → ((side : Side) (cell : ℕ) → q ≡ Check side cell
    → pending one cell ≡ pending two cell) → found_by q one.cells ≡ found_by q two.cells
same_found (Take side cell) one two take check = take side cell refl
same_found (Check side cell) one two take check = check side cell refl
same_found (Nothing outcome) one two take check = refl
same_found Own one two take check = refl
same_found (Feed word) one two take check = refl
same_found (Post side cell word) one two take check = refl

-- ---- what one event more adds

-- to the words that a node is fed
push_fed : (start : Chip) (done : List Event) (event : Event) (x : ℕ)
    → words_fed start (done ++ event ∷ []) x
    ≡ words_fed start done x ++ words_fed start (event ∷ []) x
push_fed start done event x = flat_map-append (piece_of (is_open start x) x) done (event ∷ [])

-- to what is true of each event of two runs
push_among : (p : Event → Bool) (done way : List Event) (event : Event)
    → (list_all p done ≡ true → list_all p way ≡ true) → list_all p (done ++ event ∷ []) ≡ true
    → list_all p (way ++ event ∷ []) ≡ true
push_among p done way event old e =
    let both = and_parts (list_all p done) (list_all p (event ∷ []))
    (sym (list_all-append p done (event ∷ [])) ∙ e) in
    list_all-append p way (event ∷ [])
    ∙ ap₂ (λ a b. a && b) (old both.0) both.1

-- and of each event of one
keep_among : (p : Event → Bool) (done : List Event) (event : Event)
    → list_all p (done ++ event ∷ []) ≡ true → list_all p done ≡ true
keep_among p done event e =
    (and_parts (list_all p done) (list_all p (event ∷ []))
    (sym (list_all-append p done (event ∷ [])) ∙ e)).0

-- ---- the moves apart from a step

-- If a run of a chip has come to some moves, another run, the way, has made those that don't come
-- behind the step of a node that follows its first k.
pub record Apart (start : Chip) (first : Clocks) (name k : ℕ) (done way : List Event) (now : Chip)
    (made : List Move) : Type 0 where
  -- a node that made no other moves is as it is, and made the same
  pub parts : (x : ℕ) → (clocks_on first made).nodes x name ≤ k
      → part_of (ran start way) x ≡ part_of now x
  pub moves_are : (x : ℕ) → (clocks_on first made).nodes x name ≤ k
      → moves_of x (moves start way) ≡ moves_of x made
  -- at a cell whose last post, or last take, is among them the same was posted, or taken
  pub posts_are : (cell : ℕ) → (clocks_on first made).posts cell name ≤ k
      → posts cell (moves start way) ≡ posts cell made
  pub takes_are : (cell : ℕ) → (clocks_on first made).takes cell name ≤ k
      → takes cell (moves start way) ≡ takes cell made
  -- no node made more moves
  pub within : (x : ℕ) → length (moves_of x (moves start way)) ≤ length (moves_of x made)
  -- the node of the step made none, and is as it was
  pub still : moves_of name (moves start way) ≡ []
  pub stands : part_of (ran start way) name ≡ part_of start name
  -- the other nodes were fed the same
  pub fed : (x : ℕ) → (x ≡ name → ⊥) → words_fed start way x ≡ words_fed start done x
  pub unfed : words_fed start way name ≡ []
  -- and each event is one of the run
  pub among : (p : Event → Bool) → list_all p done ≡ true → list_all p way ≡ true

-- Some way makes them.
abbrev pub HasApart : (start : Chip) (first : Clocks) (name k : ℕ) (done : List Event)
    (now : Chip) (made : List Move) → Type 0
HasApart start first name k done now made =
    (way : List Event) × Apart start first name k done way now made

-- no way has been made at the start
pub none_yet : (start : Chip) (first : Clocks) (name k : ℕ)
    → Apart start first name k [] [] start []
none_yet start first name k = record {
  parts = λ x h. refl;
  moves_are = λ x h. refl;
  posts_are = λ cell h. refl;
  takes_are = λ cell h. refl;
  within = λ x. zero-le;
  still = refl;
  stands = refl;
  fed = λ x apart. refl;
  unfed = refl;
  among = λ p e. e;
}

-- A try at a moment of a run.
record Step (start : Chip) (first : Clocks) (name k : ℕ) (done way : List Event) (one : asked.Try)
    (m : Move) : Type 0 where
  legal : IsLegal start
  so : Apart start first name k done way (ran start done) (moves start done)
  grown : k ≤ (clocks_on first (moves start done)).nodes name name
  made : move_in (ran start done) (Try one.node one.side) ≡ m ∷ []

module _ (start : Chip) (first : Clocks) (name k : ℕ) (done way : List Event) (one : asked.Try)
    (m : Move) (s : Step start first name k done way one m) where
  -- the try
  abbrev event : Event
  event = Try one.node one.side

  -- the chip that the run has come to
  abbrev now : Chip
  now = ran start done

  -- and the one that the other run has
  abbrev there : Chip
  there = ran start way

  -- the clocks before the try
  abbrev old : Clocks
  old = clocks_on first (moves start done)

  -- the moves with that of the try
  abbrev new : List Move
  new = moves start done ++ m ∷ []

  -- the clocks behind it
  clocks_new : clocks_on first new ≡ clocks_by m old
  clocks_new = clocks_on-append first (moves start done) (m ∷ [])

  -- the try is known
  it : Tried now one.node one.side m
  it = tried_move now one.node one.side m s.made

  -- its node makes the move
  node_is : m.node ≡ one.node
  node_is = ap (λ x. x.node) it.is

  -- the chip is legal
  legal_now : IsLegal now
  legal_now = legal_ran start done s.legal

  -- the node has a name
  named : IsNodeName one.node
  named = has_name now one.node it.part legal_now it.there

  -- the move fits its node
  fits : Fits m.asked (need_of it.part.state) one.node
  fits =
      subst (λ n. Fits m.asked (need_of it.part.state) n)
      (legal_now.named one.node it.part it.there)
      (subst (λ q. Fits q (need_of it.part.state) it.part.state.node)
      (sym (ap (λ x. x.asked) it.is)) (asks_fits it.part one.side))

  -- such a node posted the same in a cell
  writer_same : (side : Side) (cell : ℕ) → old.nodes m.node name ≤ k
      → cell_of one.node side ≡ Some cell
      → posts cell (moves start way) ≡ posts cell (moves start done)
  writer_same side cell h here =
      posts_ran start way one.node cell side s.legal here
      ∙ ap (posts cell) (s.so.moves_are one.node (subst (λ n. old.nodes n name ≤ k) node_is h))
      ∙ sym (posts_ran start done one.node cell side s.legal here)

  -- and took the same from one
  reader_same : (side : Side) (cell : ℕ) → old.nodes m.node name ≤ k
      → read_cell one.node side ≡ Some cell
      → takes cell (moves start way) ≡ takes cell (moves start done)
  reader_same side cell h here =
      takes_ran start way one.node cell side s.legal named here
      ∙ ap (takes cell) (s.so.moves_are one.node (subst (λ n. old.nodes n name ≤ k) node_is h))
      ∙ sym (takes_ran start done one.node cell side s.legal named here)

  -- a take is from a cell that the node reads
  reads : (side : Side) (cell : ℕ) → m.asked ≡ Take side cell → read_cell one.node side ≡ Some cell
  reads side cell e = (subst (λ q. Fits q (need_of it.part.state) one.node) e fits).1

  -- a check is of a cell that it writes
  checks : (side : Side) (cell : ℕ) → m.asked ≡ Check side cell → cell_of one.node side ≡ Some cell
  checks side cell e = (subst (λ q. Fits q (need_of it.part.state) one.node) e fits).0

  -- and a post is into one
  writes : (side : Side) (cell word : ℕ) → m.asked ≡ Post side cell word
      → cell_of one.node side ≡ Some cell
  writes side cell word e = (subst (λ q. Fits q (need_of it.part.state) one.node) e fits).0

  -- THE TRY IS THE SAME MOVE where it doesn't come behind the step
  module _ (h : clock_of m old name ≤ k) where
    -- the node's earlier moves don't come behind the step
    own : old.nodes m.node name ≤ k
    own = le_trans (clock_own m old name) h

    -- nor does what it waited for
    cause : cause_of m.asked old name ≤ k
    cause = le_trans (clock_cause m old name) h

    -- so it finds the same
    found : found_by m.asked there.cells ≡ found_by m.asked now.cells
    found =
        same_found m.asked there now
        (λ side cell e. same_pending start way done cell s.legal
        (s.so.posts_are cell (subst (λ q. cause_of q old name ≤ k) e cause))
        (reader_same side cell own (reads side cell e)))
        (λ side cell e. same_pending start way done cell s.legal
        (writer_same side cell own (checks side cell e))
        (s.so.takes_are cell (subst (λ q. cause_of q old name ≤ k) e cause)))

    -- and tries alike
    alike : TriesAlike there now one.node one.side it.part
    alike = record {
      here = s.so.parts one.node (subst (λ n. old.nodes n name ≤ k) node_is own) ∙ it.there;
      there = it.there;
      found = subst (λ q. found_by q there.cells ≡ found_by q now.cells)
          (ap (λ x. x.asked) it.is) found;
    }

    -- and moves alike
    made_again : move_in there event ≡ m ∷ []
    made_again = same_move there now one.node one.side it.part alike ∙ s.made

    -- the other run makes the move too
    more : moves start (way ++ event ∷ []) ≡ moves start way ++ m ∷ []
    more =
        moves_next start way event ∙ ap (λ l. moves start way ++ l) made_again

    -- and leads on
    goes : ran start (way ++ event ∷ []) ≡ happened there event
    goes = ran-append start way (event ∷ [])

    -- the node of the step doesn't make it
    not_its_node : name ≡ m.node → ⊥
    not_its_node e =
        let one_more : old.nodes m.node name + 1 ≤ clock_of m old name = clock_more m old name e in
        let grown : k ≤ old.nodes m.node name = subst (λ n. k ≤ old.nodes n name) e s.grown in
        too_late k (old.nodes m.node name) (clock_of m old name) grown one_more h
      where
        too_late : (k old new : ℕ) → k ≤ old → old + 1 ≤ new → new ≤ k → ⊥
        too_late k old new a b c = absurd (omega arith)

  -- what doesn't come behind the step now didn't before
  old_clock : (x : ℕ) → (clocks_on first new).nodes x name ≤ k → old.nodes x name ≤ k
  old_clock x h =
      le_trans (node_grows m old x name) (subst (λ cs. cs.nodes x name ≤ k) clocks_new h)

  -- nor did the posts in a cell
  old_posts : (cell : ℕ) → PostsNot m.asked cell → (clocks_on first new).posts cell name ≤ k
      → old.posts cell name ≤ k
  old_posts cell n h =
      subst (λ c. c name ≤ k) (n.clocks (clock_of m old) old.posts)
      (subst (λ cs. cs.posts cell name ≤ k) clocks_new h)

  -- nor the takes from it
  old_takes : (cell : ℕ) → TakesNot m.asked cell → (clocks_on first new).takes cell name ≤ k
      → old.takes cell name ≤ k
  old_takes cell n h =
      subst (λ c. c name ≤ k) (n.clocks (clock_of m old) old.takes)
      (subst (λ cs. cs.takes cell name ≤ k) clocks_new h)

  -- the try changes no other node
  other_now : (x : ℕ) → (x ≡ one.node → ⊥) → part_of (happened now event) x ≡ part_of now x
  other_now x apart = part_other now one.node one.side x legal_now.parts apart

  -- A MOVE THAT DOESN'T COME BEHIND THE STEP is made
  kept : clock_of m old name ≤ k
      → Apart start first name k (done ++ event ∷ []) (way ++ event ∷ []) (happened now event) new
  kept h = record {
    parts = λ x g. ap (λ c. part_of c x) (goes h) ∙ part_at x g (cases_eq x one.node);
    moves_are = λ x g. ap (moves_of x) (more h) ∙ push_moves x (moves start way) m
        ∙ ap (λ l. l ++ moves_of x (m ∷ [])) (s.so.moves_are x (old_clock x g))
        ∙ sym (push_moves x (moves start done) m);
    posts_are = λ cell g. ap (posts cell) (more h) ∙ push_posts cell (moves start way) m
        ∙ ap (λ l. l ++ posted_by cell m.asked) (posts_old cell g (posts_at m.asked cell))
        ∙ sym (push_posts cell (moves start done) m);
    takes_are = λ cell g. ap (takes cell) (more h) ∙ push_takes cell (moves start way) m
        ∙ ap (λ l. l ++ taken_by cell m.asked m.found) (takes_old cell g (takes_at m.asked cell))
        ∙ sym (push_takes cell (moves start done) m);
    within = λ x. more_both _ _ _ _ (length (moves_of x (m ∷ [])))
        (ap (λ ms. length (moves_of x ms)) (more h) ∙ push_long x (moves start way) m)
        (push_long x (moves start done) m) (s.so.within x);
    still = ap (moves_of name) (more h) ∙ push_moves name (moves start way) m
        ∙ ap₂ (λ xs ys. xs ++ ys) s.so.still (not_its name m (not_its_node h));
    stands = ap (λ c. part_of c name) (goes h)
        ∙ other_there name (λ e. not_its_node h (e ∙ sym node_is)) ∙ s.so.stands;
    fed = λ x apart. push_fed start way event x
        ∙ ap (λ ws. ws ++ words_fed start (event ∷ []) x) (s.so.fed x apart)
        ∙ sym (push_fed start done event x);
    unfed = push_fed start way event name
        ∙ ap (λ ws. ws ++ words_fed start (event ∷ []) name) s.so.unfed;
    among = λ p. push_among p done way event (s.so.among p);
  }
    where
      other_there : (x : ℕ) → (x ≡ one.node → ⊥)
          → part_of (happened there event) x ≡ part_of there x
      other_there x apart =
          part_other there one.node one.side x (legal_ran start way s.legal).parts apart

      part_at : (x : ℕ) → (clocks_on first new).nodes x name ≤ k
          → (x ≡ one.node) ⊎ (x ≡ one.node → ⊥)
          → part_of (happened there event) x ≡ part_of (happened now event) x
      part_at x g (inl e) =
          subst (λ n. part_of (happened there event) n ≡ part_of (happened now event) n) (sym e)
          (same_part there now one.node one.side it.part (alike h))
      part_at x g (inr apart) =
          other_there x apart ∙ s.so.parts x (old_clock x g) ∙ sym (other_now x apart)

      posts_old : (cell : ℕ) → (clocks_on first new).posts cell name ≤ k
          → PostsNot m.asked cell ⊎ PostsHere m.asked cell
          → posts cell (moves start way) ≡ posts cell (moves start done)
      posts_old cell g (inl n) = s.so.posts_are cell (old_posts cell n g)
      posts_old cell g (inr p) =
          writer_same p.side cell (own h) (writes p.side cell p.word p.asked)

      takes_old : (cell : ℕ) → (clocks_on first new).takes cell name ≤ k
          → TakesNot m.asked cell ⊎ TakesHere m.asked cell
          → takes cell (moves start way) ≡ takes cell (moves start done)
      takes_old cell g (inl n) = s.so.takes_are cell (old_takes cell n g)
      takes_old cell g (inr t) = reader_same t.side cell (own h) (reads t.side cell t.asked)

  -- and any other left out
  dropped : k < clock_of m old name
      → Apart start first name k (done ++ event ∷ []) way (happened now event) new
  dropped late = record {
    parts = λ x g. s.so.parts x (old_clock x g)
        ∙ sym (other_now x (λ e. not_its_node x g (e ∙ sym node_is)));
    moves_are = λ x g. s.so.moves_are x (old_clock x g) ∙ sym (append-nil _)
        ∙ ap (λ l. moves_of x (moves start done) ++ l) (sym (not_its x m (not_its_node x g)))
        ∙ sym (push_moves x (moves start done) m);
    posts_are = λ cell g. posts_old cell g (posts_at m.asked cell);
    takes_are = λ cell g. takes_old cell g (takes_at m.asked cell);
    within = λ x. more_one _ _ _ _ (push_long x (moves start done) m) (s.so.within x);
    still = s.so.still;
    stands = s.so.stands;
    fed = λ x apart. s.so.fed x apart ∙ sym (append-nil _) ∙ sym (push_fed start done event x);
    unfed = s.so.unfed;
    among = λ p e. s.so.among p (keep_among p done event e);
  }
    where
      too_late : (clock : ℕ) → clock ≡ clock_of m old name → clock ≤ k → ⊥
      too_late clock e g = absurd (omega arith)

      not_its_node : (x : ℕ) → (clocks_on first new).nodes x name ≤ k → x ≡ m.node → ⊥
      not_its_node x g e =
          too_late _ (ap (λ cs. cs.nodes x name) clocks_new
          ∙ ap (λ n. (clocks_by m old).nodes n name) e ∙ ap (λ c. c name) (node_here m old)) g

      posts_old : (cell : ℕ) → (clocks_on first new).posts cell name ≤ k
          → PostsNot m.asked cell ⊎ PostsHere m.asked cell
          → posts cell (moves start way) ≡ posts cell new
      posts_old cell g (inl n) =
          s.so.posts_are cell (old_posts cell n g) ∙ sym (append-nil _)
          ∙ ap (λ l. posts cell (moves start done) ++ l) (sym n.none)
          ∙ sym (push_posts cell (moves start done) m)
      posts_old cell g (inr p) =
          absurd (too_late _ (ap (λ cs. cs.posts cell name) clocks_new
          ∙ ap (λ c. c name) (p.clocks (clock_of m old) old.posts)) g)

      takes_old : (cell : ℕ) → (clocks_on first new).takes cell name ≤ k
          → TakesNot m.asked cell ⊎ TakesHere m.asked cell
          → takes cell (moves start way) ≡ takes cell new
      takes_old cell g (inl n) =
          s.so.takes_are cell (old_takes cell n g) ∙ sym (append-nil _)
          ∙ ap (λ l. takes cell (moves start done) ++ l) (sym (n.none m.found))
          ∙ sym (push_takes cell (moves start done) m)
      takes_old cell g (inr t) =
          absurd (too_late _ (ap (λ cs. cs.takes cell name) clocks_new
          ∙ ap (λ c. c name) (t.clocks (clock_of m old) old.takes)) g)

-- The moves that don't come behind the step are made behind any try.
pub next_try : (start : Chip) (first : Clocks) (name k : ℕ) (done way : List Event)
    (one : asked.Try) → IsLegal start → k ≤ (clocks_on first (moves start done)).nodes name name
    → Apart start first name k done way (ran start done) (moves start done)
    → Apart start first name k (done ++ Try one.node one.side ∷ [])
    (way ++ apart_by name k (Try one.node one.side)
    (move_in (ran start done) (Try one.node one.side)) (clocks_on first (moves start done)))
    (happened (ran start done) (Try one.node one.side))
    (moves start done ++ move_in (ran start done) (Try one.node one.side))
next_try start first name k done way one legal grown so = by (one_or_none now event)
  where
    event : Event
    event = Try one.node one.side

    now : Chip
    now = ran start done

    old : Clocks
    old = clocks_on first (moves start done)

    -- what is made behind the moves of the try
    Made : List Move → List Event → Chip → Type 0
    Made ms more there =
        Apart start first name k (done ++ event ∷ []) (way ++ more) there (moves start done ++ ms)

    none_more : Apart start first name k (done ++ event ∷ []) way now (moves start done)
    none_more = record {
      parts = so.parts;
      moves_are = so.moves_are;
      posts_are = so.posts_are;
      takes_are = so.takes_are;
      within = so.within;
      still = so.still;
      stands = so.stands;
      fed = λ x apart. so.fed x apart ∙ sym (append-nil _) ∙ sym (push_fed start done event x);
      unfed = so.unfed;
      among = λ p e. so.among p (keep_among p done event e);
    }

    by : (move_in now event ≡ []) ⊎ One now event
        → Made (move_in now event) (apart_by name k event (move_in now event) old)
        (happened now event)
    by (inl none) =
        subst (λ ms. Made ms (apart_by name k event ms old) (happened now event)) (sym none)
        (subst (Made [] []) (sym (none_tried now one.node one.side none))
        (subst (λ w. Apart start first name k (done ++ event ∷ []) w now (moves start done ++ []))
        (sym (append-nil way))
        (subst (Apart start first name k (done ++ event ∷ []) way now)
        (sym (append-nil (moves start done))) none_more)))
    by (inr o) =
        subst (λ ms. Made ms (apart_by name k event ms old) (happened now event)) (sym o.made)
        (either (cases_lt k (clock_of o.move old name)))
      where
        s : Step start first name k done way one o.move
        s = record { legal = legal; so = so; grown = grown; made = o.made }

        either : (k < clock_of o.move old name) ⊎ (clock_of o.move old name ≤ k)
            → Made (o.move ∷ []) (apart_by name k event (o.move ∷ []) old) (happened now event)
        either (inl late) =
            subst (λ b. Made (o.move ∷ []) (if b then [] else event ∷ []) (happened now event))
            (sym (below k (clock_of o.move old name) late))
            (subst (λ w. Apart start first name k (done ++ event ∷ []) w (happened now event)
            (moves start done ++ o.move ∷ [])) (sym (append-nil way))
            (dropped start first name k done way one o.move s late))
        either (inr early) =
            subst (λ b. Made (o.move ∷ []) (if b then [] else event ∷ []) (happened now event))
            (sym (not_below k (clock_of o.move old name) early))
            (kept start first name k done way one o.move s early)

-- A change of a node's breakpoints, its pass or its stream.
module _ (start : Chip) (first : Clocks) (name k : ℕ) (done way : List Event) (event : Event)
    (c : Changes event) (legal : IsLegal start)
    (so : Apart start first name k done way (ran start done) (moves start done)) where
  -- the other run leads to a legal chip
  legal_there : IsLegal (ran start way)
  legal_there = legal_ran start way legal

  -- the event changes no other node
  other_done : (x : ℕ) → (x ≡ c.node → ⊥)
      → part_of (happened (ran start done) event) x ≡ part_of (ran start done) x
  other_done x apart =
      changed_other event c (ran start done) x (legal_ran start done legal).parts apart

  -- is made at any node but that of the step
  change_kept : (name ≡ c.node → ⊥) → Apart start first name k (done ++ event ∷ [])
      (way ++ event ∷ []) (happened (ran start done) event) (moves start done)
  change_kept apart = record {
    parts = λ x h. ap (λ d. part_of d x) (ran-append start way (event ∷ []))
        ∙ part_at x h (cases_eq x c.node);
    moves_are = λ x h. ap (moves_of x) no_more ∙ so.moves_are x h;
    posts_are = λ cell h. ap (posts cell) no_more ∙ so.posts_are cell h;
    takes_are = λ cell h. ap (takes cell) no_more ∙ so.takes_are cell h;
    within = λ x. subst (λ ms. length (moves_of x ms) ≤ length (moves_of x (moves start done)))
        (sym no_more) (so.within x);
    still = ap (moves_of name) no_more ∙ so.still;
    stands = ap (λ d. part_of d name) (ran-append start way (event ∷ []))
        ∙ changed_other event c (ran start way) name legal_there.parts apart ∙ so.stands;
    fed = λ x apart. push_fed start way event x
        ∙ ap (λ ws. ws ++ words_fed start (event ∷ []) x) (so.fed x apart)
        ∙ sym (push_fed start done event x);
    unfed = push_fed start way event name
        ∙ ap₂ (λ xs ys. xs ++ (ys ++ [])) so.unfed (c.elsewhere (is_open start name) name apart);
    among = λ p. push_among p done way event (so.among p);
  }
    where
      no_more : moves start (way ++ event ∷ []) ≡ moves start way
      no_more =
          moves_next start way event
          ∙ ap (λ l. moves start way ++ l) (c.none (ran start way)) ∙ append-nil _

      part_at : (x : ℕ) → (clocks_on first (moves start done)).nodes x name ≤ k
          → (x ≡ c.node) ⊎ (x ≡ c.node → ⊥) → part_of (happened (ran start way) event) x
          ≡ part_of (happened (ran start done) event) x
      part_at x h (inl e) =
          subst (λ n. part_of (happened (ran start way) event) n
          ≡ part_of (happened (ran start done) event) n) (sym e)
          (changed_same event c (ran start way) (ran start done)
          (subst (λ n. part_of (ran start way) n ≡ part_of (ran start done) n) e (so.parts x h)))
      part_at x h (inr other) =
          changed_other event c (ran start way) x legal_there.parts other ∙ so.parts x h
          ∙ sym (other_done x other)

  -- and left out at that node, once it has made the step
  change_dropped : name ≡ c.node → k < (clocks_on first (moves start done)).nodes name name
      → Apart start first name k (done ++ event ∷ []) way
      (happened (ran start done) event) (moves start done)
  change_dropped its late = record {
    parts = λ x h. so.parts x h
        ∙ sym (other_done x (λ e. too_late x h (e ∙ sym its)));
    moves_are = so.moves_are;
    posts_are = so.posts_are;
    takes_are = so.takes_are;
    within = so.within;
    still = so.still;
    stands = so.stands;
    fed = λ x apart. so.fed x apart ∙ sym (append-nil _)
        ∙ ap (λ ws. words_fed start done x ++ (ws ++ []))
        (sym (c.elsewhere (is_open start x) x (λ e. apart (e ∙ sym its))))
        ∙ sym (push_fed start done event x);
    unfed = so.unfed;
    among = λ p e. so.among p (keep_among p done event e);
  }
    where
      over : (a : ℕ) → a ≤ k → k < a → ⊥
      over a h g = absurd (omega arith)

      too_late : (x : ℕ) → (clocks_on first (moves start done)).nodes x name ≤ k → x ≡ name → ⊥
      too_late x h e =
          over _ h (subst (λ n. k < (clocks_on first (moves start done)).nodes n name) (sym e) late)

-- and behind any event, once the step is made
next : (start : Chip) (first : Clocks) (name k : ℕ) (done way : List Event) (event : Event)
    → IsLegal start → k < (clocks_on first (moves start done)).nodes name name
    → Apart start first name k done way (ran start done) (moves start done)
    → HasApart start first name k (done ++ event ∷ []) (happened (ran start done) event)
    (moves start done ++ move_in (ran start done) event)
next start first name k done way event legal late so = by (try_or_changes event)
  where
    same : (c : Changes event)
        → moves start done ++ move_in (ran start done) event ≡ moves start done
    same c = ap (λ l. moves start done ++ l) (c.none (ran start done)) ∙ append-nil _

    by_name : (c : Changes event) → (name ≡ c.node) ⊎ (name ≡ c.node → ⊥)
        → HasApart start first name k (done ++ event ∷ []) (happened (ran start done) event)
        (moves start done)
    by_name c (inl its) =
        (way, change_dropped start first name k done way event c legal so its late)
    by_name c (inr apart) =
        (way ++ event ∷ [], change_kept start first name k done way event c legal so apart)

    by : IsTry event ⊎ Changes event
        → HasApart start first name k (done ++ event ∷ []) (happened (ran start done) event)
        (moves start done ++ move_in (ran start done) event)
    by (inl t) =
        subst (λ e. HasApart start first name k (done ++ e ∷ []) (happened (ran start done) e)
        (moves start done ++ move_in (ran start done) e)) (sym t.is)
        (_, next_try start first name k done way t.one legal (omega arith) so)
    by (inr c) =
        subst
        (HasApart start first name k (done ++ event ∷ []) (happened (ran start done) event))
        (sym (same c)) (by_name c (cases_eq name c.node))

-- and so along the run
on : (start : Chip) (first : Clocks) (name k : ℕ) (done rest : List Event) → IsLegal start
    → k < (clocks_on first (moves start done)).nodes name name
    → HasApart start first name k done (ran start done) (moves start done)
    → HasApart start first name k (done ++ rest) (ran start (done ++ rest))
    (moves start (done ++ rest))
on start first name k done [] legal late so =
    subst (λ es. HasApart start first name k es (ran start es) (moves start es))
    (sym (append-nil done)) so
on start first name k done (event ∷ rest) legal late so =
    subst (λ es. HasApart start first name k es (ran start es) (moves start es))
    (append_assoc done (event ∷ []) rest)
    (on start first name k (done ++ event ∷ []) rest legal later
    (subst (λ c. HasApart start first name k (done ++ event ∷ []) c
    (moves start (done ++ event ∷ []))) (sym (ran-append start done (event ∷ [])))
    (subst (HasApart start first name k (done ++ event ∷ []) (happened (ran start done) event))
    (sym (moves_next start done event))
    (next start first name k done so.0 event legal late so.1))))
  where
    less : (a b c : ℕ) → a < b → b ≤ c → a < c
    less a b c h g = omega arith

    later : k < (clocks_on first (moves start (done ++ event ∷ []))).nodes name name
    later =
        less _ _ _ late
        (subst (λ cs. (clocks_on first (moves start done)).nodes name name ≤ cs.nodes name name)
        (sym (ap (clocks_on first) (moves_next start done event)
        ∙ clocks_on-append first (moves start done) (move_in (ran start done) event)))
        (grows_all (clocks_on first (moves start done)) (move_in (ran start done) event) name name))

-- THE MOVES APART FROM A STEP, in a run that begins with the step
pub apart : (start : Chip) (first : Clocks) (name k : ℕ) (one : asked.Try) (rest : List Event)
    (m : Move) → IsLegal start → k ≤ first.nodes name name
    → move_in start (Try one.node one.side) ≡ m ∷ [] → name ≡ m.node
    → HasApart start first name k (Try one.node one.side ∷ rest)
    (ran start (Try one.node one.side ∷ rest)) (moves start (Try one.node one.side ∷ rest))
apart start first name k one rest m legal grown made its =
    on start first name k (Try one.node one.side ∷ []) rest legal
    (subst (λ ms. k < (clocks_on first ms).nodes name name) (sym only)
    (subst (λ c. k < c) (sym (ap (λ n. (clocks_by m first).nodes n name) its
    ∙ ap (λ c. c name) (node_here m first))) late))
    (subst (HasApart start first name k (Try one.node one.side ∷ [])
    (happened start (Try one.node one.side))) (sym only) (
      [],
      dropped start first name k [] [] one m (record {
        legal = legal;
        so = none_yet start first name k;
        grown = grown;
        made = made;
      }) late,
    ))
  where
    only : moves start (Try one.node one.side ∷ []) ≡ m ∷ []
    only = append-nil (move_in start (Try one.node one.side)) ∙ made

    less : (a b c : ℕ) → a ≤ b → b + 1 ≤ c → a < c
    less a b c h g = omega arith

    late : k < clock_of m first name
    late =
        less _ _ _ (subst (λ n. k ≤ first.nodes n name) its grown) (clock_more m first name its)
