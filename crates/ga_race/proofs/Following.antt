-- The watch over the steps of a run finds the races that the track along its moves finds. The
-- clocks of the track count from the start of the run, and those of the watch count the steps
-- before it too.
use Rattle.std.proofs.Common.{◌≡◌, ℕ, ◌+◌, ◌≤◌, ◌<◌, ◌==◌, Bool, true, false, List, [], ◌∷◌, ◌++◌, ◌⊎◌, inl, inr, Option, Some, None, refl, sym, ap, ap₂, ◌∙◌, subst, append-nil, append_assoc, arith}
use Rattle.std.specs.Prelude.{◌/◌, ◌%◌, ◌&&◌, ◌||◌, not, nat_lt, max, if◌then◌else◌, is_some, option_map}
use Rattle.std.specs.List.{flat_map, list_any}
use Rattle.std.specs.Option.{option_map_or, option_to_list}
use Rattle.std.proofs.lemmas.Bool.{cases_eq, cases_lt, eq-eqb, eqb-true, ne_eqb}
use Rattle.std.proofs.lemmas.Grind.{common_steps}
use Rattle.std.proofs.lemmas.Option.{same_Some}
use Rattle.ga_place.specs.Node.{IsNodeName}
use Rattle.ga_place.specs.Cell.{cell_of, read_cell}
use Rattle.ga_place.specs.Side.{SIDES, bits_of, is_among, neighbour_of, one_side, side_bit}
use Rattle.ga_place.specs.declared.side.Side.{Side}
use Rattle.ga_place.specs.declared.side.Side.TheVariants.{Right, Down, Left, Up}
use Rattle.ga_place.specs.declared.side.Sides.{Sides}
use Rattle.ga_place.proofs.Cells.{one_reader, reader_there}
use Rattle.ga_place.proofs.SideLemmas.{neighbour_of-IsNodeName}
use Rattle.ga_node.specs.State.{State}
use Rattle.ga_node.specs.Need.{need_of, takes_at}
use Rattle.ga_node.specs.declared.need.Need.{Need}
use Rattle.ga_node.specs.declared.need.Need.TheVariants as need
use Rattle.ga_chip.specs.Part.{Part, Asks, Nothing, Own, Feed, Post, Take, Check, asks_by, at_cell, input_of, looked_at, picked_by, picked_of, take_from}
use Rattle.ga_chip.specs.Chip.{Chip, pending, state_of}
use Rattle.ga_chip.specs.Legal.{IsLegal}
use Rattle.ga_chip.specs.Stuck.{is_full}
use Rattle.ga_chip.specs.Run.{Event, Move, happened, move_in, moves, posted_by, ran, taken_by}
use Rattle.ga_chip.proofs.Kept.{has_name, legal_ran}
use Rattle.ga_chip.proofs.Parts.{Fits, Passes}
use Rattle.ga_chip.proofs.Runs.{flow_ran, part_first, ran-append, stand_ran}
use Rattle.ga_observe.specs.declared.step.Step.{Step}
use Rattle.ga_observe.specs.Laws.{events_in}
use Rattle.ga_observe.specs.Seen.{deed_of, step_of, steps_by, steps_in, steps_seen}
use Rattle.ga_race.specs.Clocks as run
use Rattle.ga_race.specs.Clocks.{Clock, cause_of, clock_of, clocks, no_clocks, post_clocks, take_clocks}
use Rattle.ga_race.specs.Watch.{Watch, cause_by, cell_posted, cell_taken, clock_after, count_of, finds_race, first_watch, is_early, is_early_by, kept_for, leaves_cell, leaves_side, leaves_word, put_for, reads_cell, watch_on, watch_step, word_posted}
use Rattle.ga_race.proofs.Tracks.{Track, first_track, is_move_early, move_leaves, move_leaves_cell, move_leaves_out, move_leaves_word, track_finds, track_on, tracked_all, tracked_by}
use Rattle.ga_race.proofs.Prefixes.{One, one_or_none, posts_one, takes_one}
use Rattle.ga_race.proofs.Causes.{IsBehind, cause_below, fits_made, is_behind}
use Rattle.ga_race.proofs.Watching.{at_cell as found_cell, own_steps, right_true, some_side, track-append, track_clocks}

-- how many steps a node had made before a run
abbrev pub steps_before : Chip → ℕ → ℕ
steps_before chip name = option_map_or (λ (s : State). s.steps) (state_of chip name) 0

-- a count of the track with those added; 0 stays, since it means that there is no step
abbrev pub counted : ℕ → ℕ → ℕ
counted before k = if k == 0 then 0 else k + before

pub counted_some : (before k : ℕ) → 1 ≤ k → counted before k ≡ k + before
counted_some before k h =
    ap (λ b. if b then 0 else k + before) (ne_eqb k 0 (λ e. absurd (omega arith)))

pub counted_none : (before k : ℕ) → k < 1 → counted before k ≡ 0
counted_none before k h =
    let e : k ≡ 0 = omega arith in ap (λ b. if b then 0 else k + before) (eq-eqb k 0 e)

counted_max : (before j k : ℕ)
    → max (counted before j) (counted before k) ≡ counted before (max j k)
counted_max before j k = by (cases_lt j 1) (cases_lt k 1)
  where
    by : (j < 1) ⊎ (1 ≤ j) → (k < 1) ⊎ (1 ≤ k)
        → max (counted before j) (counted before k) ≡ counted before (max j k)
    by (inl f) (inl g) =
        let a = counted_none before j f in
        let b = counted_none before k g in
        let c = counted_none before (max j k) (omega arith) in omega arith
    by (inl f) (inr g) =
        let a = counted_none before j f in
        let b = counted_some before k g in
        let c = counted_some before (max j k) (omega arith) in omega arith
    by (inr f) (inl g) =
        let a = counted_some before j f in
        let b = counted_none before k g in
        let c = counted_some before (max j k) (omega arith) in omega arith
    by (inr f) (inr g) =
        let a = counted_some before j f in
        let b = counted_some before k g in
        let c = counted_some before (max j k) (omega arith) in omega arith

pub below : (a b : ℕ) → a < b → nat_lt a b ≡ true
below a b h = grind (arith, common_steps)

pub not_below : (a b : ℕ) → b ≤ a → nat_lt a b ≡ false
not_below a b h = grind (arith, common_steps)

counted_less : (before j k : ℕ) → j < k → counted before j < counted before k
counted_less before j k h = by (cases_lt j 1)
  where
    by : (j < 1) ⊎ (1 ≤ j) → counted before j < counted before k
    by (inl f) =
        let a = counted_none before j f in
        let b = counted_some before k (omega arith) in omega arith
    by (inr f) =
        let a = counted_some before j f in
        let b = counted_some before k (omega arith) in omega arith

counted_same : (before j k : ℕ) → k ≤ j → counted before k ≤ counted before j
counted_same before j k h = by (cases_lt k 1)
  where
    by : (k < 1) ⊎ (1 ≤ k) → counted before k ≤ counted before j
    by (inl f) = let a = counted_none before k f in omega arith
    by (inr f) =
        let a = counted_some before k f in
        let b = counted_some before j (omega arith) in omega arith

counted_lt : (before j k : ℕ)
    → nat_lt (counted before j) (counted before k) ≡ nat_lt j k
counted_lt before j k = by (cases_lt j k)
  where
    by : (j < k) ⊎ (k ≤ j) → nat_lt (counted before j) (counted before k) ≡ nat_lt j k
    by (inl h) = below _ _ (counted_less before j k h) ∙ sym (below j k h)
    by (inr h) = not_below _ _ (counted_same before j k h) ∙ sym (not_below j k h)

-- how the watch and the track agree at a moment of a run
pub record Follows (chip now : Chip) (t : Track) (w : Watch) : Type 0 where
  pub nodes : (name x : ℕ)
      → w.clocks.nodes name x ≡ counted (steps_before chip x) (t.clocks.nodes name x)
  pub posts : (cell x : ℕ)
      → w.clocks.posts cell x ≡ counted (steps_before chip x) (t.clocks.posts cell x)
  pub takes : (cell x : ℕ)
      → w.clocks.takes cell x ≡ counted (steps_before chip x) (t.clocks.takes cell x)
  pub words : (cell : ℕ) → w.words cell ≡ pending now cell
  pub left_at : (name cell : ℕ) (side : Side) → IsNodeName name → read_cell name side ≡ Some cell
      → w.left_at cell ≡ counted (steps_before chip name) (t.left_at cell)
  pub race : w.race ≡ t.race

-- A take of one side leaves out no other.
alone : (only side : Side)
    → ((side_bit only / side_bit side % 2 == 1) && not (side_bit side == side_bit only)) ≡ false
alone Right Right = refl
alone Right Down = refl
alone Right Left = refl
alone Right Up = refl
alone Down Right = refl
alone Down Down = refl
alone Down Left = refl
alone Down Up = refl
alone Left Right = refl
alone Left Down = refl
alone Left Left = refl
alone Left Up = refl
alone Up Right = refl
alone Up Down = refl
alone Up Left = refl
alone Up Up = refl

pub only_it : (sides : Sides) (only side : Side) → one_side sides ≡ Some only
    → (is_among side sides && not (side_bit side == side_bit only)) ≡ false
only_it sides only side e =
    by (bits_of sides == 0x80) (bits_of sides == 0x40) (bits_of sides == 0x20)
    (bits_of sides == 0x10) refl refl refl refl e
  where
    here : (at : Side) → (bits_of sides == side_bit at) ≡ true → Some at ≡ Some only
        → (is_among side sides && not (side_bit side == side_bit only)) ≡ false
    here at is same =
        let one : at ≡ only = same_Some at only same in
        let bits : bits_of sides ≡ side_bit only =
        eqb-true (bits_of sides) (side_bit at) is ∙ ap side_bit one in
        ap (λ b. (b / side_bit side % 2 == 1) && not (side_bit side == side_bit only)) bits
        ∙ alone only side

    by : (r d l u : Bool) → (bits_of sides == 0x80) ≡ r → (bits_of sides == 0x40) ≡ d
        → (bits_of sides == 0x20) ≡ l → (bits_of sides == 0x10) ≡ u → (if r then Some Right
        else (if d then Some Down else (if l then Some Left else (if u then Some Up else None))))
        ≡ Some only → (is_among side sides && not (side_bit side == side_bit only)) ≡ false
    by true d l u e f g h is = here Right e is
    by false true l u e f g h is = here Down f is
    by false false true u e f g h is = here Left g is
    by false false false true e f g h is = here Up h is
    by false false false false e f g h is = cc

-- A step leaves out the sides that its move leaves out.
leaves_take : (sides : Sides) (name : ℕ) (part : Part) (chosen side : Side) (found : Option ℕ)
    → need_of part.state ≡ need.Take sides
    → Passes (take_from name (looked_at (one_side sides) sides chosen)) found
    → leaves_side (deed_of (need.Take sides)
    (take_from name (looked_at (one_side sides) sides chosen)) found) side
    ≡ move_leaves_out (Some part) (picked_of (one_side sides) chosen) side
leaves_take sides name part chosen side found needs passed = by (one_side sides) refl passed
  where
    at_one : (only : Side) (o : Option ℕ) → one_side sides ≡ Some only
        → leaves_side (deed_of (need.Take sides) (at_cell (Take only) o) found) side ≡ false
    at_one only None e = refl
    at_one only (Some cell) e = only_it sides only side e

    at_side : (o : Option ℕ) → Passes (at_cell (Take chosen) o) found
        → leaves_side (deed_of (need.Take sides) (at_cell (Take chosen) o) found) side
        ≡ (is_among side sides && not (side_bit side == side_bit chosen))
    at_side None p = absurd p
    at_side (Some cell) p = refl

    at_several : (b : Bool) → Passes (take_from name (if b then Some chosen else None)) found
        → leaves_side (deed_of (need.Take sides)
        (take_from name (if b then Some chosen else None)) found) side
        ≡ (is_among side sides && not (side_bit side == side_bit chosen))
    at_several true p = at_side (read_cell name chosen) p
    at_several false p = absurd p

    by : (o : Option Side) → one_side sides ≡ o
        → Passes (take_from name (looked_at o sides chosen)) found
        → leaves_side (deed_of (need.Take sides)
        (take_from name (looked_at o sides chosen)) found) side
        ≡ move_leaves_out (Some part) (picked_of o chosen) side
    by (Some only) e p = at_one only (read_cell name only) e
    by None e p =
        at_several (is_among chosen sides) p
        ∙ ap (λ n. takes_at side n && not (side_bit side == side_bit chosen)) (sym needs)

leaves_by : (n : Need) (name : ℕ) (part : Part) (chosen side : Side) (found : Option ℕ)
    → need_of part.state ≡ n → Passes (asks_by n name part.stream chosen) found
    → leaves_side (deed_of n (asks_by n name part.stream chosen) found) side
    ≡ move_leaves_out (Some part) (picked_by n chosen) side
leaves_by need.Own name part chosen side found e p = refl
leaves_by (need.Take sides) name part chosen side found e p =
    leaves_take sides name part chosen side found e p
leaves_by (need.Post to word) name part chosen side found e p = by (cell_of name to)
  where
    by : (o : Option ℕ) → leaves_side (deed_of (need.Post to word)
        (at_cell (λ cell. Post to cell word) o) found) side ≡ false
    by None = refl
    by (Some cell) = refl
leaves_by (need.Check to) name part chosen side found e p = by (cell_of name to)
  where
    by : (o : Option ℕ)
        → leaves_side (deed_of (need.Check to) (at_cell (Check to) o) found) side ≡ false
    by None = refl
    by (Some cell) = refl
leaves_by need.Input name part chosen side found e p = by part.stream
  where
    by : (s : Option (List ℕ)) → leaves_side (deed_of need.Input (input_of s) found) side ≡ false
    by None = refl
    by (Some []) = refl
    by (Some (word ∷ rest)) = refl
leaves_by (need.Stopped stop) name part chosen side found e p = refl

-- what a cell holds behind an event, by the words that flow through it
same_word : (one two : Option ℕ) → option_to_list one ++ [] ≡ option_to_list two → one ≡ two
same_word None None e = refl
same_word None (Some two) e = cc
same_word (Some one) None e = cc
same_word (Some one) (Some two) e = cc

posted_word : (one two : Option ℕ) (word : ℕ)
    → option_to_list one ++ word ∷ [] ≡ option_to_list two → Some word ≡ two
posted_word None None word e = cc
posted_word None (Some two) word e = cc
posted_word (Some one) None word e = cc
posted_word (Some one) (Some two) word e = cc

taken_word : (one two : Option ℕ) (word : ℕ)
    → option_to_list one ++ [] ≡ word ∷ option_to_list two → None ≡ two
taken_word one None word e = refl
taken_word None (Some two) word e = cc
taken_word (Some one) (Some two) word e = cc

pub eq_sym : (a b : ℕ) → (a == b) ≡ (b == a)
eq_sym a b = by (cases_eq a b)
  where
    by : (a ≡ b) ⊎ (a ≡ b → ⊥) → (a == b) ≡ (b == a)
    by (inl e) = eq-eqb a b e ∙ sym (eq-eqb b a (sym e))
    by (inr apart) = ne_eqb a b apart ∙ sym (ne_eqb b a (λ e. apart (sym e)))

-- an event without a move is no step
pub no_step : (chip : Chip) (event : Event) (turn : ℕ) → move_in chip event ≡ []
    → steps_in turn chip event ≡ []
unfolding steps_in
no_step chip event turn none =
    ap (flat_map (λ move. steps_by turn (state_of chip move.node) move)) none

-- and an event with a move is one step
pub one_step : (chip : Chip) (event : Event) (turn : ℕ) (o : One chip event)
    → steps_in turn chip event ≡ step_of turn o.makes.part.state o.move ∷ []
unfolding steps_in
one_step chip event turn o =
    ap (flat_map (λ move. steps_by turn (state_of chip move.node) move)) o.made
    ∙ append-nil (steps_by turn (state_of chip o.move.node) o.move)
    ∙ ap (λ p. steps_by turn (option_map (λ (p : Part). p.state) p) o.move) o.makes.there

-- The watch after one move.
module _ (chip : Chip) (done : List Event) (turn : ℕ) (event : Event) (w : Watch)
    (legal : IsLegal chip) (o : One (ran chip done) event)
    (f : Follows chip (ran chip done) (track_on chip first_track done) w) where
  abbrev t : Track
  t = track_on chip first_track done

  abbrev m : Move
  m = o.move

  abbrev part : Part
  part = o.makes.part

  abbrev it : Step
  it = step_of turn part.state m

  abbrev before : ℕ → ℕ
  before name = steps_before chip name

  legal_now : IsLegal (ran chip done)
  legal_now = legal_ran chip done legal

  named : IsNodeName m.node
  named = has_name (ran chip done) m.node part legal_now o.makes.there

  fits : Fits m.asked (need_of part.state) m.node
  fits = fits_made (ran chip done) m.node m o.makes legal_now

  behind : IsBehind chip done
  behind = is_behind chip done legal

  same_clocks : t.clocks ≡ clocks chip done
  same_clocks = track_clocks chip first_track done

  -- the node's own count is its steps in the run
  own : t.clocks.nodes m.node m.node ≡ run.steps_in chip done m.node
  own =
      let all = own_steps no_clocks (moves chip done) m.node in
      let bound = behind.nodes m.node m.node in
      let same : t.clocks.nodes m.node m.node ≡ (clocks chip done).nodes m.node m.node =
      ap (λ cs. cs.nodes m.node m.node) same_clocks in
      omega arith

  cause_bound : cause_of m.asked t.clocks m.node ≤ run.steps_in chip done m.node
  cause_bound =
      subst (λ cs. cause_of m.asked cs m.node ≤ run.steps_in chip done m.node) (sym same_clocks)
      (cause_below m.asked (clocks chip done) m.node (run.steps_in chip done m.node)
      (λ side cell e. behind.posts cell m.node) (λ side cell e. behind.takes cell m.node))

  pub number : part.state.steps ≡ before m.node + run.steps_in chip done m.node
  number =
      let first = part_first chip done m.node part legal o.makes.there in
      let s = stand_ran chip done m.node first.0 legal first.1 in
      let here : before m.node ≡ first.0.state.steps =
      ap (λ p. option_map_or (λ (s : State). s.steps)
      (option_map (λ (p : Part). p.state) p) 0) first.1 in
      let now : part.state.steps ≡ s.now.state.steps =
      ap (λ (p : Part). p.state.steps) (same_Some part s.now (sym o.makes.there ∙ s.there)) in
      let steps = s.steps in
      omega arith

  own_count : count_of it ≡ counted (before m.node) (clock_of m t.clocks m.node)
  own_count =
      let tick : clock_of m t.clocks m.node
      ≡ max (t.clocks.nodes m.node m.node) (cause_of m.asked t.clocks m.node) + 1 =
      ap (λ b. if b then max (t.clocks.nodes m.node m.node) (cause_of m.asked t.clocks m.node) + 1
      else max (t.clocks.nodes m.node m.node) (cause_of m.asked t.clocks m.node))
      (eq-eqb m.node m.node refl) in
      let lifted = counted_some (before m.node) (clock_of m t.clocks m.node) (omega arith) in
      let a = own in
      let b = cause_bound in
      let c = number in
      omega arith

  -- the cause has the same steps
  cause : (x : ℕ) → cause_by m.node it.deed w.clocks x
      ≡ counted (before x) (cause_of m.asked t.clocks x)
  cause x = by m.asked fits
    where
      by : (q : Asks) → Fits q (need_of part.state) m.node
          → cause_by m.node (deed_of (need_of part.state) q m.found) w.clocks x
          ≡ counted (before x) (cause_of q t.clocks x)
      by (Take side cell) g = ap (λ o. kept_for (λ y. 0) w.clocks.posts o x) g.1 ∙ f.posts cell x
      by (Check side cell) g = ap (λ o. kept_for (λ y. 0) w.clocks.takes o x) g.0 ∙ f.takes cell x
      by (Nothing outcome) g = refl
      by Own g = refl
      by (Feed word) g = refl
      by (Post side cell word) g = refl

  pub clock : (x : ℕ) → clock_after it w.clocks x ≡ counted (before x) (clock_of m t.clocks x)
  clock x = by (x == m.node) refl
    where
      joins : max (w.clocks.nodes m.node x) (cause_by m.node it.deed w.clocks x)
          ≡ counted (before x) (max (t.clocks.nodes m.node x) (cause_of m.asked t.clocks x))
      joins = ap₂ (λ a b. max a b) (f.nodes m.node x) (cause x)
          ∙ counted_max (before x) (t.clocks.nodes m.node x) (cause_of m.asked t.clocks x)

      by : (b : Bool) → (x == m.node) ≡ b
          → clock_after it w.clocks x ≡ counted (before x) (clock_of m t.clocks x)
      by true e =
          ap (λ b. if b then count_of it
          else max (w.clocks.nodes m.node x) (cause_by m.node it.deed w.clocks x)) e
          ∙ own_count
          ∙ ap (λ y. counted (before y) (clock_of m t.clocks y)) (sym (eqb-true x m.node e))
      by false e =
          ap (λ b. if b then count_of it
          else max (w.clocks.nodes m.node x) (cause_by m.node it.deed w.clocks x)) e
          ∙ joins
          ∙ ap (λ b. counted (before x) (if b
          then max (t.clocks.nodes m.node x) (cause_of m.asked t.clocks x) + 1
          else max (t.clocks.nodes m.node x) (cause_of m.asked t.clocks x))) (sym e)

  nodes_next : (name x : ℕ) → (watch_step w it).clocks.nodes name x
      ≡ counted (before x) ((tracked_by (ran chip done) t m).clocks.nodes name x)
  nodes_next name x = by (name == m.node)
    where
      by : (b : Bool) → (if b then clock_after it w.clocks else w.clocks.nodes name) x
          ≡ counted (before x) ((if b then clock_of m t.clocks else t.clocks.nodes name) x)
      by true = clock x
      by false = f.nodes name x

  put_next : (at cell x : ℕ) (kept old : ℕ → Clock)
      → kept cell x ≡ counted (before x) (old cell x)
      → put_for (Some at) (clock_after it w.clocks) kept cell x
      ≡ counted (before x) (run.with_clock at (clock_of m t.clocks) old cell x)
  put_next at cell x kept old same = by (cell == at)
    where
      by : (b : Bool) → (if b then clock_after it w.clocks else kept cell) x
          ≡ counted (before x) ((if b then clock_of m t.clocks else old cell) x)
      by true = clock x
      by false = same

  posts_next : (cell x : ℕ) → (watch_step w it).clocks.posts cell x
      ≡ counted (before x) ((tracked_by (ran chip done) t m).clocks.posts cell x)
  posts_next cell x = by m.asked fits
    where
      by : (q : Asks) → Fits q (need_of part.state) m.node
          → put_for (cell_posted m.node (deed_of (need_of part.state) q m.found))
          (clock_after it w.clocks) w.clocks.posts cell x
          ≡ counted (before x) (post_clocks q (clock_of m t.clocks) t.clocks.posts cell x)
      by (Post side at word) g =
          ap (λ o. put_for o (clock_after it w.clocks) w.clocks.posts cell x) g.0
          ∙ put_next at cell x w.clocks.posts t.clocks.posts (f.posts cell x)
      by (Nothing outcome) g = f.posts cell x
      by Own g = f.posts cell x
      by (Feed word) g = f.posts cell x
      by (Take side at) g = f.posts cell x
      by (Check side at) g = f.posts cell x

  takes_next : (cell x : ℕ) → (watch_step w it).clocks.takes cell x
      ≡ counted (before x) ((tracked_by (ran chip done) t m).clocks.takes cell x)
  takes_next cell x = by m.asked fits
    where
      by : (q : Asks) → Fits q (need_of part.state) m.node
          → put_for (cell_taken m.node (deed_of (need_of part.state) q m.found))
          (clock_after it w.clocks) w.clocks.takes cell x
          ≡ counted (before x) (take_clocks q (clock_of m t.clocks) t.clocks.takes cell x)
      by (Take side at) g =
          ap (λ o. put_for o (clock_after it w.clocks) w.clocks.takes cell x) g.1
          ∙ put_next at cell x w.clocks.takes t.clocks.takes (f.takes cell x)
      by (Nothing outcome) g = f.takes cell x
      by Own g = f.takes cell x
      by (Feed word) g = f.takes cell x
      by (Post side at word) g = f.takes cell x
      by (Check side at) g = f.takes cell x

  -- which words the cells hold
  flow : (cell : ℕ) → option_to_list (pending (ran chip done) cell) ++ posted_by cell m.asked
      ≡ taken_by cell m.asked m.found
      ++ option_to_list (pending (happened (ran chip done) event) cell)
  flow cell =
      let now = option_to_list (pending (ran chip done) cell) in
      let later = option_to_list (pending (happened (ran chip done) event) cell) in
      ap (λ l. now ++ l) (sym (posts_one (ran chip done) event m cell o.made))
      ∙ flow_ran (ran chip done) (event ∷ []) cell legal_now
      ∙ ap (λ l. l ++ later) (takes_one (ran chip done) event m cell o.made)

  words_next : (cell : ℕ)
      → (watch_step w it).words cell ≡ pending (happened (ran chip done) event) cell
  words_next cell = by m.asked fits o.makes.passed (flow cell)
    where
      now : Option ℕ
      now = pending (ran chip done) cell

      later : Option ℕ
      later = pending (happened (ran chip done) event) cell

      stays : option_to_list now ++ [] ≡ option_to_list later → w.words cell ≡ later
      stays e = f.words cell ∙ same_word now later e

      by_post : (at : ℕ) (word : ℕ) (b : Bool)
          → option_to_list now ++ (if b then word ∷ [] else []) ≡ option_to_list later
          → (if b then Some word else w.words cell) ≡ later
      by_post at word true e = posted_word now later word e
      by_post at word false e = stays e

      by_take : (word : ℕ) (b : Bool)
          → option_to_list now ++ [] ≡ (if b then word ∷ [] else []) ++ option_to_list later
          → (if b then None else w.words cell) ≡ later
      by_take word true e = taken_word now later word e
      by_take word false e = stays e

      by : (q : Asks) → Fits q (need_of part.state) m.node → Passes q m.found
          → option_to_list now ++ posted_by cell q
          ≡ taken_by cell q m.found ++ option_to_list later
          → put_for (cell_posted m.node (deed_of (need_of part.state) q m.found))
          (word_posted (deed_of (need_of part.state) q m.found))
          (put_for (cell_taken m.node (deed_of (need_of part.state) q m.found)) None w.words) cell
          ≡ later
      by (Post side at word) g p e =
          ap (λ at. put_for at (Some word) w.words cell) g.0
          ∙ by_post at word (cell == at)
          (ap (λ b. option_to_list now ++ (if b then word ∷ [] else [])) (eq_sym cell at) ∙ e)
      by (Take side at) g p e =
          ap (λ at. put_for at None w.words cell) g.1
          ∙ by_take p.0 (cell == at) (e ∙ ap (λ l. l ++ option_to_list later)
          (ap (λ v. taken_by cell (Take side at) v) p.1
          ∙ ap (λ b. if b then p.0 ∷ [] else []) (eq_sym at cell)))
      by (Nothing outcome) g p e = stays e
      by Own g p e = stays e
      by (Feed word) g p e = stays e
      by (Check side at) g p e = stays e

  -- what the step leaves out
  leaves_same : (side : Side) → leaves_side it.deed side ≡ move_leaves (ran chip done) m side
  leaves_same side =
      ap (λ q. leaves_side (deed_of (need_of part.state) q m.found) side) o.makes.asked
      ∙ leaves_by (need_of part.state) part.state.node part o.makes.side side m.found refl
      (subst (λ q. Passes q m.found) o.makes.asked o.makes.passed)
      ∙ ap₂ (λ p picked. move_leaves_out p picked side) (sym o.makes.there) (sym o.makes.picks)

  any_same : (p q : Side → Bool) → ((side : Side) → p side ≡ q side)
      → list_any p SIDES ≡ list_any q SIDES
  any_same p q same =
      ap₂ (λ a b. a || b) (same Right) (ap₂ (λ a b. a || b) (same Down)
      (ap₂ (λ a b. a || b) (same Left) (ap (λ a. a || false) (same Up))))

  cell_same : (cell : ℕ) → leaves_cell it cell ≡ move_leaves_cell (ran chip done) m cell
  cell_same cell =
      any_same (λ side. leaves_side it.deed side && reads_cell m.node cell side)
      (λ side. move_leaves (ran chip done) m side && reads_cell m.node cell side)
      (λ side. ap (λ b. b && reads_cell m.node cell side) (leaves_same side))

  word_same : leaves_word it w.words ≡ move_leaves_word (ran chip done) m
  word_same =
      any_same (λ side. leaves_side it.deed side
      && is_some (kept_for None w.words (read_cell m.node side)))
      (λ side. move_leaves (ran chip done) m side
      && is_full (ran chip done).cells (read_cell m.node side))
      (λ side. ap₂ (λ a b. a && b) (leaves_same side) (full_at (read_cell m.node side)))
    where
      full_at : (o : Option ℕ)
          → is_some (kept_for None w.words o) ≡ is_full (ran chip done).cells o
      full_at None = refl
      full_at (Some cell) = ap is_some (f.words cell)

  left_next : (name cell : ℕ) (side : Side) → IsNodeName name → read_cell name side ≡ Some cell
      → (watch_step w it).left_at cell
      ≡ counted (before name) ((tracked_by (ran chip done) t m).left_at cell)
  left_next name cell side is_name reads =
      ap (λ b. if b then count_of it else w.left_at cell) (cell_same cell)
      ∙ by (move_leaves_cell (ran chip done) m cell) refl
    where
      by : (b : Bool) → move_leaves_cell (ran chip done) m cell ≡ b
          → (if b then count_of it else w.left_at cell)
          ≡ counted (before name) (if b then clock_of m t.clocks m.node else t.left_at cell)
      by true e =
          let at =
          some_side (λ at. move_leaves (ran chip done) m at && reads_cell m.node cell at) e in
          let here = found_cell cell (read_cell m.node at.0)
          (right_true (move_leaves (ran chip done) m at.0) (reads_cell m.node cell at.0) at.1) in
          let same = (one_reader m.node name cell at.0 side named is_name here reads).0 in
          own_count ∙ ap (λ n. counted (before n) (clock_of m t.clocks m.node)) same
      by false e = f.left_at name cell side is_name reads

  early_same : is_early m.node it.deed (clock_after it w.clocks) w.left_at
      ≡ is_move_early m.asked m.node (clock_of m t.clocks) t.left_at
  early_same = by m.asked fits
    where
      at_reader : (side : Side) (cell : ℕ) (n : Option ℕ) → cell_of m.node side ≡ Some cell
          → neighbour_of m.node side ≡ n
          → is_early_by (Some cell) n (clock_after it w.clocks) w.left_at
          ≡ option_map_or (λ reader. nat_lt (clock_of m t.clocks reader) (t.left_at cell)) n false
      at_reader side cell None writes there = refl
      at_reader side cell (Some reader) writes there =
          ap₂ (λ a b. nat_lt a b) (clock reader)
          (f.left_at reader cell side (neighbour_of-IsNodeName m.node reader side named there)
          (reader_there m.node reader cell side named writes there))
          ∙ counted_lt (before reader) (clock_of m t.clocks reader) (t.left_at cell)

      by : (q : Asks) → Fits q (need_of part.state) m.node
          → is_early m.node (deed_of (need_of part.state) q m.found) (clock_after it w.clocks)
          w.left_at
          ≡ is_move_early q m.node (clock_of m t.clocks) t.left_at
      by (Post side cell word) g =
          ap (λ at. is_early_by at (neighbour_of m.node side) (clock_after it w.clocks) w.left_at)
          g.0
          ∙ at_reader side cell (neighbour_of m.node side) g.0 refl
      by (Nothing outcome) g = refl
      by Own g = refl
      by (Feed word) g = refl
      by (Take side at) g = refl
      by (Check side at) g = refl

  follows_move : Follows chip (happened (ran chip done) event)
      (tracked_by (ran chip done) t m) (watch_step w it)
  follows_move = record {
    nodes = nodes_next;
    posts = posts_next;
    takes = takes_next;
    words = words_next;
    left_at = left_next;
    race = ap₂ (λ a b. a || b) f.race (ap₂ (λ a b. a || b) word_same early_same);
  }

-- The watch after one event.
abbrev FollowsRun : Chip → List Event → Watch → Type 0
FollowsRun chip done w = Follows chip (ran chip done) (track_on chip first_track done) w

follows_next : (chip : Chip) (done : List Event) (turn : ℕ) (event : Event) (w : Watch)
    → IsLegal chip → FollowsRun chip done w
    → FollowsRun chip (done ++ event ∷ []) (watch_on w (steps_in turn (ran chip done) event))
follows_next chip done turn event w legal f = by (one_or_none (ran chip done) event)
  where
    t : Track
    t = track_on chip first_track done

    now : ran chip (done ++ event ∷ []) ≡ happened (ran chip done) event
    now = ran-append chip done (event ∷ [])

    tracks : track_on chip first_track (done ++ event ∷ [])
        ≡ tracked_all (ran chip done) t (move_in (ran chip done) event)
    tracks = track-append chip first_track done (event ∷ [])

    at : (u : Track) (v : Watch) → u ≡ tracked_all (ran chip done) t (move_in (ran chip done) event)
        → v ≡ watch_on w (steps_in turn (ran chip done) event)
        → Follows chip (happened (ran chip done) event) u v
        → FollowsRun chip (done ++ event ∷ []) (watch_on w (steps_in turn (ran chip done) event))
    at u v e g is =
        subst (λ c. Follows chip c (track_on chip first_track (done ++ event ∷ []))
        (watch_on w (steps_in turn (ran chip done) event))) (sym now)
        (subst (λ u. Follows chip (happened (ran chip done) event) u
        (watch_on w (steps_in turn (ran chip done) event))) (e ∙ sym tracks)
        (subst (Follows chip (happened (ran chip done) event) u) g is))

    same_words : move_in (ran chip done) event ≡ [] → (cell : ℕ)
        → pending (ran chip done) cell ≡ pending (happened (ran chip done) event) cell
    same_words none cell =
        let now = pending (ran chip done) cell in
        let later = pending (happened (ran chip done) event) cell in
        same_word now later (ap (λ l. option_to_list now
        ++ flat_map (λ (move : Move). posted_by cell move.asked) (l ++ [])) (sym none)
        ∙ flow_ran (ran chip done) (event ∷ []) cell (legal_ran chip done legal)
        ∙ ap (λ l. flat_map (λ (move : Move). taken_by cell move.asked move.found) (l ++ [])
        ++ option_to_list later) none)

    still : move_in (ran chip done) event ≡ []
        → Follows chip (happened (ran chip done) event) t w
    still none = record {
      nodes = f.nodes;
      posts = f.posts;
      takes = f.takes;
      words = λ cell. f.words cell ∙ same_words none cell;
      left_at = f.left_at;
      race = f.race;
    }

    by : (move_in (ran chip done) event ≡ []) ⊎ One (ran chip done) event
        → FollowsRun chip (done ++ event ∷ []) (watch_on w (steps_in turn (ran chip done) event))
    by (inl none) =
        at t w (ap (tracked_all (ran chip done) t) (sym none))
        (ap (watch_on w) (sym (no_step (ran chip done) event turn none))) (still none)
    by (inr o) =
        at (tracked_by (ran chip done) t o.move)
        (watch_step w (step_of turn o.makes.part.state o.move))
        (ap (tracked_all (ran chip done) t) (sym o.made))
        (ap (watch_on w) (sym (one_step (ran chip done) event turn o)))
        (follows_move chip done turn event w legal o f)

pub watch-append : (w : Watch) (steps more : List Step)
    → watch_on w (steps ++ more) ≡ watch_on (watch_on w steps) more
watch-append w [] more = refl
watch-append w (step ∷ steps) more = watch-append (watch_step w step) steps more

follows_on : (chip : Chip) (done : List Event) (w : Watch) (rest : List (ℕ × Event))
    → IsLegal chip → FollowsRun chip done w
    → FollowsRun chip (done ++ events_in rest) (watch_on w (steps_seen (ran chip done) rest))
follows_on chip done w [] legal f =
    subst (λ (es : List Event). FollowsRun chip es w) (sym (append-nil done)) f
follows_on chip done w (next ∷ rest) legal f =
    let more = next.1 ∷ [] in
    let seen = steps_in next.0 (ran chip done) next.1 in
    subst (FollowsRun chip (done ++ events_in (next ∷ rest)))
    (ap (λ c. watch_on (watch_on w seen) (steps_seen c rest)) (ran-append chip done more)
    ∙ sym (watch-append w seen (steps_seen (happened (ran chip done) next.1) rest)))
    (subst (λ es. FollowsRun chip es
    (watch_on (watch_on w seen) (steps_seen (ran chip (done ++ more)) rest)))
    (append_assoc done more (events_in rest))
    (follows_on chip (done ++ more) (watch_on w seen) rest legal
    (follows_next chip done next.0 next.1 w legal f)))

-- the watch over the steps of a run follows the track
pub follows_run : (chip : Chip) (events : List (ℕ × Event)) → IsLegal chip
    → Follows chip (ran chip (events_in events)) (track_on chip first_track (events_in events))
    (watch_on (first_watch chip.cells) (steps_seen chip events))
follows_run chip events legal =
    follows_on chip [] (first_watch chip.cells) events legal (record {
      nodes = λ name x. refl;
      posts = λ cell x. refl;
      takes = λ cell x. refl;
      words = λ cell. refl;
      left_at = λ name cell side is_name reads. refl;
      race = refl;
    })

-- so both find the same
pub finds_same : (chip : Chip) (events : List (ℕ × Event)) → IsLegal chip
    → finds_race chip events ≡ track_finds chip (events_in events)
finds_same chip events legal = (follows_run chip events legal).race
