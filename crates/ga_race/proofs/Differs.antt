-- A race of a run shows two ways for the chip to go: behind the run before the take, the moves are
-- made that don't come behind the take. Then words are pending at both sides.
use Rattle.std.proofs.Common.{◌≡◌, ℕ, ◌+◌, ◌<◌, ◌≤◌, Bool, true, false, List, [], ◌∷◌, ◌++◌, ◌⊎◌, inl, inr, length, flat_map, Option, Some, None, refl, sym, ap, ap₂, ◌∙◌, subst, append-nil, append_assoc, length-append, zero-le, arith}
use Rattle.std.specs.Prelude.{◌&&◌, if◌then◌else◌, IsSome}
use Rattle.std.specs.List.{list_all}
use Rattle.std.specs.Option.{option_to_list}
use Rattle.std.proofs.Math.Nat.{le_trans}
use Rattle.std.proofs.lemmas.Bool.{and_parts, cases_eq}
use Rattle.std.proofs.lemmas.Option.{same_Some}
use Rattle.std.proofs.lemmas.List.Concat.{flat_map-append}
use Rattle.std.proofs.lemmas.List.Folds.{list_all-append}
use Rattle.ga_place.specs.Node.{IsNodeName}
use Rattle.ga_place.specs.Cell.{read_cell}
use Rattle.ga_place.specs.Side.{is_among, one_side}
use Rattle.ga_place.specs.declared.side.Side.{Side}
use Rattle.ga_place.specs.declared.side.Sides.{Sides}
use Rattle.ga_node.specs.Need.{need_of, takes_at}
use Rattle.ga_node.specs.declared.need.Need.{Need}
use Rattle.ga_node.specs.declared.need.Need.TheVariants as need
use Rattle.ga_chip.specs.declared.outcome.Outcome.TheVariants.{Moved}
use Rattle.ga_chip.specs.declared.outcome.Try as asked
use Rattle.ga_chip.specs.Part.{Part, Take, after, after_asked, asks, asks_if, at_cell, is_held, looked_at, picked_by, picked_of, take_from}
use Rattle.ga_chip.specs.Chip.{Chip, found_by, part_of, pending}
use Rattle.ga_chip.specs.Run.{ClearBreak, Event, Move, PassBreak, Piece, SetBreak, Try, happened, is_open, move_in, moves, moves_of, piece_of, posted_by, ran, sides_of, tries_of, words_fed}
use Rattle.ga_chip.specs.Laws.{AgreesWith, IsPrefix}
use Rattle.ga_chip.specs.Legal.{IsLegal}
use Rattle.ga_chip.specs.Stuck.{is_full}
use Rattle.ga_chip.proofs.Joining.{runs_join}
use Rattle.ga_chip.proofs.Kept.{has_name, legal_ran}
use Rattle.ga_chip.proofs.Lists.{agree_after, agree_first}
use Rattle.ga_chip.proofs.Moments.{makes_event}
use Rattle.ga_chip.proofs.Parts.{Passes, no_move_held, passed_after}
use Rattle.ga_chip.proofs.Plain.{free_asks}
use Rattle.ga_chip.proofs.Runs.{flow_ran, moves-append, moves_of-append, posts, ran-append, takes, takes_ran}
use Rattle.ga_race.specs.Clocks.{clocks, clocks_on, no_clocks, steps_in}
use Rattle.ga_race.specs.Races.{LeavesOut, Posts}
use Rattle.ga_race.specs.Differs.{CanTake, GoesTwoWays, HasRace, PostsApart, RaceDiffers, TriesDiffer}
use Rattle.ga_race.proofs.Apart.{HasApart, apart}
use Rattle.ga_race.proofs.Causes.{clocks_on-append}
use Rattle.ga_race.proofs.Prefixes.{fed_prefix, its_own, next_of, not_its, only_move, posted_one, steps_earlier, wrote, wrote_append, wrote_one}
use Rattle.ga_race.proofs.Embedded.{chosen}
use Rattle.ga_race.proofs.Ticking.{own_steps}
use Rattle.ga_race.proofs.Trying.{Changes, IsTry, Tried, move_of, moved_is, outcome_is, result_of, tried_move, try_or_changes}

-- ---- the take

-- a multiport read names the side
several_of : (n : Need) (side taken : Side) → picked_by n side ≡ taken ∷ [] → (sides : Sides)
    × (n ≡ need.Take sides) × (one_side sides ≡ None) × (side ≡ taken)
several_of (need.Take sides) side taken e = by (one_side sides) refl e
  where
    by : (o : Option Side) → one_side sides ≡ o → picked_of o side ≡ taken ∷ [] → (them : Sides)
        × (need.Take sides ≡ need.Take them) × (one_side them ≡ None) × (side ≡ taken)
    by (Some only) f g = cc
    by None f g = (sides, refl, f, cc)
several_of need.Own side taken e = cc
several_of (need.Post to word) side taken e = cc
several_of (need.Check to) side taken e = cc
several_of need.Input side taken e = cc
several_of (need.Stopped stop) side taken e = cc

-- a node whose try is Moved isn't held
moved_free : (part : Part) (side : Side) (found : Option ℕ) → (after part side found).0 ≡ Moved
    → is_held part ≡ false
unfolding after asks
moved_free part side found moved = by (is_held part) refl moved
  where
    by : (held : Bool) → is_held part ≡ held
        → (after_asked (asks_if held part side) found part).0 ≡ Moved → is_held part ≡ false
    by true e f = absurd (no_move_held (need_of part.state) found part f)
    by false e f = e

-- What is known of a node that takes a word at one of several sides.
pub record Chooses (part : Part) (name : ℕ) : Type 0 where
  pub sides : Sides
  pub needs : need_of part.state ≡ need.Take sides
  pub several : one_side sides ≡ None
  pub free : is_held part ≡ false
  pub node : part.state.node ≡ name

-- it asks for the word of the side that its try names
asks_there : (part : Part) (name cell : ℕ) (side : Side) (c : Chooses part name)
    → is_among side c.sides ≡ true → read_cell name side ≡ Some cell
    → asks part side ≡ Take side cell
asks_there part name cell side c among reads =
    free_asks part side (need.Take c.sides) c.free (sym c.needs)
    ∙ ap₂ (λ o n. take_from n (looked_at o c.sides side)) c.several c.node
    ∙ looks (is_among side c.sides) among ∙ ap (at_cell (Take side)) reads
  where
    looks : (b : Bool) → b ≡ true
        → take_from name (if b then Some side else None) ≡ at_cell (Take side) (read_cell name side)
    looks true e = refl
    looks false e = cc

-- where a word is pending there it is taken
pub takes_there : (chip : Chip) (part : Part) (name cell : ℕ) (side : Side) (c : Chooses part name)
    → is_among side c.sides ≡ true → read_cell name side ≡ Some cell
    → IsSome (pending chip cell) → (result_of chip side part).0 ≡ Moved
unfolding after
takes_there chip part name cell side c among reads some =
    ap (λ q. (after_asked q (found_by q chip.cells) part).0)
    (asks_there part name cell side c among reads) ∙ by (pending chip cell) some
  where
    by : (o : Option ℕ) → IsSome o → (after_asked (Take side cell) o part).0 ≡ Moved
    by (Some word) h = refl
    by None h = cc

-- and is a multiport read
picks_there : (part : Part) (name : ℕ) (side : Side) (c : Chooses part name)
    → picked_by (need_of part.state) side ≡ side ∷ []
picks_there part name side c =
    ap (λ n. picked_by n side) c.needs ∙ ap (λ o. picked_of o side) c.several

-- What is known of a take that leaves out a side.
pub record Takes (start : Chip) (event : Event) (name cell : ℕ)
    (l : LeavesOut start event name cell) : Type 0 where
  pub one : asked.Try
  pub is : event ≡ Try one.node one.side
  pub made : move_in start event ≡ l.move ∷ []
  pub its : name ≡ l.move.node
  pub chooses : Chooses l.part name
  pub among : is_among l.taken chooses.sides ≡ true
  pub among_left : is_among l.left_out chooses.sides ≡ true
  pub at : ℕ
  pub reads : read_cell name l.taken ≡ Some at
  pub word : IsSome (pending start at)
  pub found : l.move.found ≡ pending start at

-- a try that takes is known
try_takes : (start : Chip) (event : Event) (name cell : ℕ) (l : LeavesOut start event name cell)
    (one : asked.Try) → IsLegal start → event ≡ Try one.node one.side
    → move_in start event ≡ l.move ∷ [] → Takes start event name cell l
try_takes start event name cell l one legal is made = record {
  one = one;
  is = is;
  made = made;
  its = sym (makes_event start event name l.move l.made).node;
  chooses = chooses;
  among = subst (λ s. is_among s it.0 ≡ true) it.3 looked.0;
  among_left = ap (takes_at l.left_out) (sym it.1) ∙ l.among;
  at = looked.1.0;
  reads = ap (read_cell name) (sym it.3) ∙ looked.1.1;
  word = subst IsSome (sym holds.1) refl;
  found = ap (λ m. m.found) t.is ∙ ap (λ p. found_by (asks p one.side) start.cells) same
      ∙ ap (λ q. found_by q start.cells) (asked_is ∙ looked.1.2);
}
  where
    t : Tried start one.node one.side l.move
    t = tried_move start one.node one.side l.move (ap (move_in start) (sym is) ∙ made)

    node_is : one.node ≡ name
    node_is = sym (ap (λ m. m.node) t.is) ∙ (makes_event start event name l.move l.made).node

    same : t.part ≡ l.part
    same = same_Some t.part l.part (sym t.there ∙ ap (part_of start) node_is ∙ l.there)

    moved : (result_of start one.side l.part).0 ≡ Moved
    moved = subst (λ p. (result_of start one.side p).0 ≡ Moved) same t.moved

    it : (sides : Sides) × (need_of l.part.state ≡ need.Take sides) × (one_side sides ≡ None)
        × (one.side ≡ l.taken)
    it =
        several_of (need_of l.part.state) one.side l.taken
        (ap (λ p. picked_by (need_of p.state) one.side) (sym same) ∙ sym (ap (λ m. m.picked) t.is)
        ∙ l.picked)

    chooses : Chooses l.part name
    chooses = record {
      sides = it.0;
      needs = it.1;
      several = it.2;
      free = moved_free l.part one.side _ moved;
      node = legal.named name l.part l.there;
    }

    asked_is : asks l.part one.side ≡ take_from name (looked_at None it.0 one.side)
    asked_is =
        free_asks l.part one.side (need.Take it.0) chooses.free (sym it.1)
        ∙ ap₂ (λ o n. take_from n (looked_at o it.0 one.side)) it.2 chooses.node

    looked : (is_among one.side it.0 ≡ true) × ((at : ℕ) × (read_cell name one.side ≡ Some at)
        × (take_from name (looked_at None it.0 one.side) ≡ Take one.side at))
    looked =
        chosen it.0 name one.side
        (found_by (take_from name (looked_at None it.0 one.side)) start.cells)
        (subst (λ q. Passes q (found_by q start.cells)) asked_is
        (passed_after l.part one.side (found_by (asks l.part one.side) start.cells) moved))

    holds : (word : ℕ) × (pending start looked.1.0 ≡ Some word)
    holds =
        subst (λ q. Passes q (found_by q start.cells)) (asked_is ∙ looked.1.2)
        (passed_after l.part one.side (found_by (asks l.part one.side) start.cells) moved)

-- and a take is a try
pub is_taken : (start : Chip) (event : Event) (name cell : ℕ) (l : LeavesOut start event name cell)
    → IsLegal start → Takes start event name cell l
is_taken start event name cell l legal = by (try_or_changes event)
  where
    made : move_in start event ≡ l.move ∷ []
    made = only_move start event name l.move l.made

    by : IsTry event ⊎ Changes event → Takes start event name cell l
    by (inl t) = try_takes start event name cell l t.one legal t.is made
    by (inr c) = let none : [] ≡ l.move ∷ [] = sym (c.none start) ∙ made in cc

-- ---- where both words are pending

-- A run behind the run before the take, which leads to where both words are pending.
record Reached (start : Chip) (rest : List Event) (name at cell : ℕ) : Type 0 where
  way : List Event
  taken : IsSome (pending (ran start way) at)
  left_out : IsSome (pending (ran start way) cell)
  stands : part_of (ran start way) name ≡ part_of start name
  still : moves_of name (moves start way) ≡ []
  within : (x : ℕ) → steps_in start way x ≤ steps_in start rest x
  fed : (x : ℕ) → IsPrefix (words_fed start way x) (words_fed start rest x)
  among : (p : Event → Bool) → list_all p rest ≡ true → list_all p way ≡ true

-- what was there or came, and wasn't taken, is there
some_there : (o : Option ℕ) (was posted : List ℕ) → was ++ posted ≡ [] ++ option_to_list o
    → 1 ≤ length was + length posted → IsSome o
some_there (Some word) was posted e h = refl
some_there None was posted e h =
    let long : length was + length posted ≡ 0 =
    sym (length-append was posted) ∙ ap (λ l. length l) e in
    absurd (omega arith)

-- so a word is pending where one was or was posted, as long as its reader makes no move
pending_later : (start : Chip) (way : List Event) (name cell : ℕ) (side : Side) → IsLegal start
    → IsNodeName name → read_cell name side ≡ Some cell → moves_of name (moves start way) ≡ []
    → 1 ≤ length (option_to_list (pending start cell)) + wrote start way cell
    → IsSome (pending (ran start way) cell)
pending_later start way name cell side legal named reads still h =
    some_there (pending (ran start way) cell) (option_to_list (pending start cell))
    (posts cell (moves start way))
    (flow_ran start way cell legal
    ∙ ap (λ l. l ++ option_to_list (pending (ran start way) cell))
    (takes_ran start way name cell side legal named reads ∙ ap (takes cell) still)) h

-- a pending word counts
full_one : (o : Option ℕ) (n : ℕ) → IsSome o → 1 ≤ length (option_to_list o) + n
full_one (Some word) n h = omega arith
full_one None n h = cc

-- the steps of a run and of one behind it
pub steps_append : (chip : Chip) (done more : List Event) (x : ℕ)
    → steps_in chip (done ++ more) x ≡ steps_in chip done x + steps_in (ran chip done) more x
steps_append chip done more x =
    ap (λ l. length l)
    (ap (moves_of x) (moves-append chip done more)
    ∙ moves_of-append x (moves chip done) (moves (ran chip done) more))
    ∙ length-append (moves_of x (moves chip done)) (moves_of x (moves (ran chip done) more))

module _ (chip : Chip) (before : List Event) (event : Event) (later : List Event) (name cell : ℕ)
    (legal : IsLegal chip) (l : LeavesOut (ran chip before) event name cell)
    (t : Takes (ran chip before) event name cell l) where
  -- the chip before the take
  abbrev start : Chip
  start = ran chip before

  -- it is legal
  legal_now : IsLegal start
  legal_now = legal_ran chip before legal

  -- the node has a name
  named : IsNodeName name
  named = has_name start name l.part legal_now l.there

  -- where a word is pending already
  here : IsSome (pending start cell) → Reached start (event ∷ later) name t.at cell
  here some = record {
    way = [];
    taken = t.word;
    left_out = some;
    stands = refl;
    still = refl;
    within = λ x. zero-le;
    fed = λ x. (words_fed start (event ∷ later) x, refl);
    among = λ p all. refl;
  }

  -- WHERE IT COMES LATER
  module _ (p : PostsApart chip before event later name cell) where
    -- the steps that the node had made
    abbrev k : ℕ
    k = steps_in chip before name

    -- the run from the take to the post
    abbrev upto : List Event
    upto = event ∷ (p.mid ++ p.post ∷ [])

    -- is a prefix of the rest
    upto_is : upto ++ p.rest ≡ event ∷ later
    upto_is =
        ap (λ es. event ∷ es) (append_assoc p.mid (p.post ∷ []) p.rest)
        ∙ ap (λ es. event ∷ es) (sym p.cut)

    -- the node's clock has these steps
    grown : k ≤ (clocks chip before).nodes name name
    grown = let own = own_steps no_clocks (moves chip before) name in omega arith

    -- the moves that don't come behind the take
    others : HasApart start (clocks chip before) name k upto (ran start upto) (moves start upto)
    others =
        subst (λ e. HasApart start (clocks chip before) name k (e ∷ (p.mid ++ p.post ∷ []))
        (ran start (e ∷ (p.mid ++ p.post ∷ []))) (moves start (e ∷ (p.mid ++ p.post ∷ []))))
        (sym t.is)
        (apart start (clocks chip before) name k t.one (p.mid ++ p.post ∷ []) l.move legal_now
        grown (ap (move_in start) (sym t.is) ∙ t.made) t.its)

    -- the run up to the post
    whole : (before ++ event ∷ p.mid) ++ p.post ∷ [] ≡ before ++ upto
    whole = append_assoc before (event ∷ p.mid) (p.post ∷ [])

    -- its clocks
    clocks_are : clocks chip ((before ++ event ∷ p.mid) ++ p.post ∷ [])
        ≡ clocks_on (clocks chip before) (moves start upto)
    clocks_are =
        ap (λ es. clocks chip es) whole ∙ ap (clocks_on no_clocks) (moves-append chip before upto)
        ∙ clocks_on-append no_clocks (moves chip before) (moves start upto)

    -- the take is one step more
    one_more : steps_in chip (before ++ event ∷ []) name ≡ k + 1
    one_more =
        ap (λ ms. length ms)
        (next_of chip before event name ∙ ap (λ ms. moves_of name (moves chip before) ++ ms) l.made)
        ∙ length-append (moves_of name (moves chip before)) (l.move ∷ [])

    -- the post doesn't come behind the take
    early : (clocks_on (clocks chip before) (moves start upto)).posts cell name ≤ k
    early =
        let less : (clocks_on (clocks chip before) (moves start upto)).posts cell name
        < steps_in chip (before ++ event ∷ []) name =
        subst (λ cs. cs.posts cell name < steps_in chip (before ++ event ∷ []) name) clocks_are
        p.early in
        omega (arith, one_more)

    -- so it is among those moves
    posted : posts cell (moves start others.0) ≡ posts cell (moves start upto)
    posted = others.1.posts_are cell early

    -- at its moment it posts
    at_post : Posts (ran start (event ∷ p.mid)) p.post cell
    at_post =
        subst (λ c. Posts c p.post cell) (ran-append chip before (event ∷ p.mid)) p.posts

    -- so that a word was posted
    many : 1 ≤ wrote start others.0 cell
    many =
        let all : wrote start upto cell ≡ wrote start (event ∷ p.mid) cell
        + wrote (ran start (event ∷ p.mid)) (p.post ∷ []) cell =
        wrote_append start (event ∷ p.mid) (p.post ∷ []) cell in
        let one : wrote (ran start (event ∷ p.mid)) (p.post ∷ []) cell ≡ 1 =
        wrote_one (ran start (event ∷ p.mid)) p.post at_post.move cell at_post.made
        ∙ ap (λ q. length (posted_by cell q)) at_post.asked
        ∙ posted_one at_post.side cell at_post.word in
        let same : wrote start others.0 cell ≡ wrote start upto cell =
        ap (λ ws. length ws) posted in
        omega arith

    -- and both words are pending
    comes : Reached start (event ∷ later) name t.at cell
    comes = record {
      way = others.0;
      taken = pending_later start others.0 name t.at l.taken legal_now named t.reads others.1.still
          (full_one (pending start t.at) (wrote start others.0 t.at) t.word);
      left_out = pending_later start others.0 name cell l.left_out legal_now named l.reads
          others.1.still (more_than (length (option_to_list (pending start cell)))
          (wrote start others.0 cell) many);
      stands = others.1.stands;
      still = others.1.still;
      within = λ x. le_trans (others.1.within x)
          (subst (λ es. steps_in start upto x ≤ steps_in start es x) upto_is
          (steps_earlier start upto p.rest x));
      fed = λ x. fed_at x (cases_eq x name);
      among = λ q all. others.1.among q (and_parts (list_all q upto) (list_all q p.rest)
          (sym (list_all-append q upto p.rest) ∙ ap (list_all q) upto_is ∙ all)).0;
    }
      where
        more_than : (a b : ℕ) → 1 ≤ b → 1 ≤ a + b
        more_than a b h = omega arith

        fed_at : (x : ℕ) → (x ≡ name) ⊎ (x ≡ name → ⊥)
            → IsPrefix (words_fed start others.0 x) (words_fed start (event ∷ later) x)
        fed_at x (inl same) =
            subst (λ n. IsPrefix (words_fed start others.0 n) (words_fed start (event ∷ later) n))
            (sym same) (
              words_fed start (event ∷ later) name,
              ap (λ ws. ws ++ words_fed start (event ∷ later) name) (sym others.1.unfed),
            )
        fed_at x (inr apart) =
            subst (λ ws. IsPrefix ws (words_fed start (event ∷ later) x))
            (sym (others.1.fed x apart))
            (subst (λ es. IsPrefix (words_fed start upto x) (words_fed start es x)) upto_is
            (fed_prefix start upto p.rest x))

  -- in either case
  both : IsSome (pending start cell) ⊎ PostsApart chip before event later name cell
      → Reached start (event ∷ later) name t.at cell
  both (inl some) = here some
  both (inr p) = comes p

-- ---- the two runs

-- lists with different ends don't agree
differ : (xs : List Side) (s t : Side) (one two : List Side) → one ≡ xs ++ s ∷ []
    → two ≡ xs ++ t ∷ [] → (t ≡ s → ⊥) → AgreesWith one two → ⊥
differ xs s t one two e f apart agree =
    let both : AgreesWith (xs ++ s ∷ []) (xs ++ t ∷ []) =
    subst (λ l. AgreesWith l (xs ++ t ∷ [])) e (subst (λ l. AgreesWith one l) f agree) in
    apart (sym (agree_first s t [] [] (agree_after xs (s ∷ []) (t ∷ []) both)))

-- What is known of a race.
record KnownRace (chip : Chip) (events : List Event) (race : HasRace chip events) : Type 0 where
  legal : IsLegal chip
  takes : Takes (ran chip race.before) race.event race.name race.cell race.leaves
  reached : Reached (ran chip race.before) (race.event ∷ race.later) race.name takes.at race.cell

module _ (chip : Chip) (events : List Event) (race : HasRace chip events)
    (shown : KnownRace chip events race) where
  -- what the take leaves out
  abbrev l : LeavesOut (ran chip race.before) race.event race.name race.cell
  l = race.leaves

  -- what is known of the take
  abbrev t : Takes (ran chip race.before) race.event race.name race.cell race.leaves
  t = shown.takes

  -- where both words are pending
  abbrev r : Reached (ran chip race.before) (race.event ∷ race.later) race.name shown.takes.at
      race.cell
  r = shown.reached

  -- the chip before the take
  abbrev beginning : Chip
  beginning = ran chip race.before

  -- the run to there
  abbrev way : List Event
  way = race.before ++ shown.reached.way

  -- it leads there
  leads : ran chip way ≡ ran beginning r.way
  leads = ran-append chip race.before r.way

  -- where the node is as it was before the take
  stands : part_of (ran chip way) race.name ≡ Some l.part
  stands = ap (λ c. part_of c race.name) leads ∙ r.stands ∙ l.there

  -- the steps of the run with one try more
  steps_more : (side : Side) (m : Move) → m.node ≡ race.name
      → move_in (ran chip way) (Try race.name side) ≡ m ∷ [] → (x : ℕ)
      → steps_in chip (way ++ Try race.name side ∷ []) x ≤ steps_in chip events x
  steps_more side m its made x =
      let both : steps_in chip (way ++ Try race.name side ∷ []) x
      ≡ steps_in chip race.before x + steps_in beginning (r.way ++ Try race.name side ∷ []) x =
      ap (λ es. steps_in chip es x) (append_assoc race.before r.way (Try race.name side ∷ []))
      ∙ steps_append chip race.before (r.way ++ Try race.name side ∷ []) x in
      let all : steps_in chip events x
      ≡ steps_in chip race.before x + steps_in beginning (race.event ∷ race.later) x =
      ap (λ es. steps_in chip es x) race.cut
      ∙ steps_append chip race.before (race.event ∷ race.later) x in
      let last : steps_in beginning (r.way ++ Try race.name side ∷ []) x
      ≡ steps_in beginning r.way x + length (moves_of x (m ∷ [])) =
      ap (λ l. length l) (next_of beginning r.way (Try race.name side) x
      ∙ ap (λ ms. moves_of x (moves beginning r.way) ++ moves_of x ms)
      (ap (λ c. move_in c (Try race.name side)) (sym leads) ∙ made))
      ∙ length-append (moves_of x (moves beginning r.way)) (moves_of x (m ∷ [])) in
      sums _ _ _ _ _ both all (by (cases_eq x race.name) last)
    where
      sums : (run both base more all : ℕ) → run ≡ base + more → both ≡ base + all → more ≤ all
          → run ≤ both
      sums run both base more all e f h = omega arith

      own_step : 1 ≤ steps_in beginning (race.event ∷ race.later) race.name
      own_step =
          let long : steps_in beginning (race.event ∷ race.later) race.name
          ≡ 1 + length (moves_of race.name (moves (happened beginning race.event) race.later)) =
          ap (λ ms. length ms) (moves_of-append race.name (move_in beginning race.event)
          (moves (happened beginning race.event) race.later)
          ∙ ap (λ ms. ms ++ moves_of race.name (moves (happened beginning race.event) race.later))
          l.made) ∙ length-append (l.move ∷ [])
          (moves_of race.name (moves (happened beginning race.event) race.later)) in
          omega arith

      here_too : (now all last old : ℕ) → now ≡ old + last → old ≡ 0 → last ≡ 1 → 1 ≤ all
          → now ≤ all
      here_too now all last old e f g h = omega arith

      else_where : (now all last old : ℕ) → now ≡ old + last → last ≡ 0 → old ≤ all → now ≤ all
      else_where now all last old e f h = omega arith

      by : (x ≡ race.name) ⊎ (x ≡ race.name → ⊥)
          → steps_in beginning (r.way ++ Try race.name side ∷ []) x
          ≡ steps_in beginning r.way x + length (moves_of x (m ∷ []))
          → steps_in beginning (r.way ++ Try race.name side ∷ []) x
          ≤ steps_in beginning (race.event ∷ race.later) x
      by (inl same) last =
          here_too _ _ _ _ last
          (ap (λ n. steps_in beginning r.way n) same ∙ ap (λ ms. length ms) r.still)
          (ap (λ ms. length ms) (its_own x m (same ∙ sym its)))
          (subst (λ n. 1 ≤ steps_in beginning (race.event ∷ race.later) n) (sym same) own_step)
      by (inr apart) last =
          else_where _ _ _ _ last
          (ap (λ ms. length ms) (not_its x m (λ e. apart (e ∙ its)))) (r.within x)

  -- and the words that it is fed
  fed_more : (side : Side) (x : ℕ)
      → IsPrefix (words_fed chip (way ++ Try race.name side ∷ []) x) (words_fed chip events x)
  fed_more side x =
      let rest = r.fed x in
      let whole : words_fed chip events x ≡ words_fed chip race.before x
      ++ words_fed beginning (race.event ∷ race.later) x =
      ap (λ es. words_fed chip es x) race.cut
      ∙ (runs_join chip race.before (race.event ∷ race.later) shown.legal).fed x in
      let part : words_fed chip (way ++ Try race.name side ∷ []) x
      ≡ words_fed chip race.before x ++ words_fed beginning r.way x =
      flat_map-append (piece_of (is_open chip x) x) way (Try race.name side ∷ []) ∙ append-nil _
      ∙ (runs_join chip race.before r.way shown.legal).fed x in (
        rest.0,
        whole ∙ ap (λ ws. words_fed chip race.before x ++ ws) rest.1
            ∙ sym (append_assoc (words_fed chip race.before x) (words_fed beginning r.way x) rest.0)
            ∙ ap (λ ws. ws ++ rest.0) (sym part),
      )

  -- so the node can take a word at a side
  can_take : (side : Side) (at : ℕ) → is_among side t.chooses.sides ≡ true
      → read_cell race.name side ≡ Some at → IsSome (pending (ran beginning r.way) at)
      → CanTake chip events way race.name side
  can_take side at among reads some = record {
    word = ap (is_full (ran chip way).cells) reads ∙ some_now;
    moved = outcome_is (ran chip way) race.name side l.part stands ∙ moved;
    names = ap picks (next_of chip way (Try race.name side) race.name
        ∙ ap (λ ms. moves_of race.name (moves chip way) ++ moves_of race.name ms) made
        ∙ ap (λ ms. moves_of race.name (moves chip way) ++ ms) (its_own race.name m refl))
        ∙ flat_map-append (λ move. move.picked) (moves_of race.name (moves chip way)) (m ∷ [])
        ∙ ap (λ xs. sides_of chip way race.name ++ xs)
        (append-nil m.picked ∙ picks_there l.part race.name side t.chooses);
    within = record { steps = steps_more side m refl made; fed = fed_more side };
  }
    where
      m : Move
      m = move_of (ran chip way) race.name side l.part

      picks : List Move → List Side
      picks ms = flat_map (λ move. move.picked) ms

      some_now : IsSome (pending (ran chip way) at)
      some_now = subst (λ c. IsSome (pending c at)) (sym leads) some

      moved : (result_of (ran chip way) side l.part).0 ≡ Moved
      moved = takes_there (ran chip way) l.part race.name at side t.chooses among reads some_now

      made : move_in (ran chip way) (Try race.name side) ≡ m ∷ []
      made = moved_is (ran chip way) race.name side l.part stands moved

  -- at the side that it took
  taken : CanTake chip events way race.name l.taken
  taken = can_take l.taken t.at t.among t.reads r.taken

  -- and at the one that it left out
  left_out : CanTake chip events way race.name l.left_out
  left_out = can_take l.left_out race.cell t.among_left l.reads r.left_out

  -- what is true of each event of the run
  all_among : (p : Event → Bool) → list_all p events ≡ true → list_all p way ≡ true
  all_among p all =
      let both = and_parts (list_all p race.before) (list_all p (race.event ∷ race.later))
      (sym (list_all-append p race.before (race.event ∷ race.later))
      ∙ ap (list_all p) (sym race.cut) ∙ all) in
      list_all-append p race.before r.way
      ∙ ap₂ (λ a b. a && b) both.0 (r.among p both.1)

  -- so the chip goes two ways
  goes : GoesTwoWays chip events race
  goes = record {
    way = way;
    front = (r.way, refl);
    among = all_among;
    node = stands;
    taken = taken;
    left_out = left_out;
    apart = differ (sides_of chip way race.name) l.taken l.left_out _ _ taken.names left_out.names
        l.apart;
  }

-- A RACE SHOWS TWO WAYS
two_ways : (chip : Chip) (events : List Event) → IsLegal chip → (race : HasRace chip events)
    → GoesTwoWays chip events race
two_ways chip events legal race =
    let t = is_taken (ran chip race.before) race.event race.name race.cell race.leaves
    (legal_ran chip race.before legal) in
    let known : KnownRace chip events race =
    record {
      legal = legal;
      takes = t;
      reached = both chip race.before race.event race.later race.name race.cell legal race.leaves
          t race.comes;
    } in
    goes chip events race known

-- so that the chip isn't determinate
pub race_differs : RaceDiffers
race_differs chip events legal race =
    let two = two_ways chip events legal race in (
      two,
      λ determinate. two.apart
          ((determinate (two.way ++ Try race.name race.leaves.taken ∷ [])
          (two.way ++ Try race.name race.leaves.left_out ∷ [])
          two.taken.within two.left_out.within).sides race.name),
    )

-- whether an event is a try
is_try : Event → Bool
is_try (Try name side) = true
is_try (SetBreak name at) = false
is_try (ClearBreak name at) = false
is_try (PassBreak name) = false
is_try (Piece name words) = false

-- each of some tries is one
all_tries : (tries : List asked.Try) → list_all is_try (tries_of tries) ≡ true
unfolding is_try
all_tries [] = refl
all_tries (one ∷ tries) = all_tries tries

-- and events that are are some tries
tries_back : (events : List Event) → list_all is_try events ≡ true
    → (tries : List asked.Try) × (events ≡ tries_of tries)
unfolding is_try
tries_back [] e = ([], refl)
tries_back (Try name side ∷ events) e =
    let rest = tries_back events e in
    (record { node = name; side = side } ∷ rest.0, ap (λ es. Try name side ∷ es) rest.1)
tries_back (SetBreak name at ∷ events) e = cc
tries_back (ClearBreak name at ∷ events) e = cc
tries_back (PassBreak name ∷ events) e = cc
tries_back (Piece name words ∷ events) e = cc

-- TRIES lead to both ways, if the run has no other events
pub tries_differ : TriesDiffer
tries_differ chip tries race two = tries_back two.way (two.among is_try (all_tries tries))
