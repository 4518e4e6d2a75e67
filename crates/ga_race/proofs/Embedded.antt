-- Each run within the steps of a run without races agrees with that run. By induction along it, its
-- nodes' moves are a prefix of theirs in the run without races. At a multiport take both runs take
-- the word at the same side: else the cell of another side would hold a word posted by a step that
-- comes after the take by causes.
use Rattle.std.proofs.Common.{◌≡◌, ℕ, ◌+◌, ◌≤◌, Bool, true, false, List, [], ◌∷◌, ◌++◌, ◌⊎◌, inl, inr, length, flat_map, Option, Some, None, refl, sym, ap, ap₂, ◌∙◌, subst, append-nil, append_assoc, length-append, arith}
use Rattle.std.specs.Prelude.{if◌then◌else◌}
use Rattle.std.proofs.lemmas.Bool.{cases_eq, ne_eqb}
use Rattle.std.proofs.lemmas.Option.{same_Some}
use Rattle.std.proofs.lemmas.List.Concat.{flat_map-append}
use Rattle.ga_place.specs.Node.{IsNodeName}
use Rattle.ga_place.specs.Cell.{read_cell}
use Rattle.ga_place.specs.Side.{is_among, one_side, side_bit}
use Rattle.ga_place.specs.declared.side.Side.{Side}
use Rattle.ga_place.specs.declared.side.Sides.{Sides}
use Rattle.ga_place.proofs.Cells.{same_bit, writer_there}
use Rattle.ga_node.specs.Need.{need_of, takes_at}
use Rattle.ga_node.specs.declared.need.Need.{Need}
use Rattle.ga_node.specs.declared.need.Need.TheVariants as need
use Rattle.ga_chip.specs.Part.{Part, Asks, Nothing, Own, Feed, Post, Check, Take, asks_by, looked_at, picked_by, picked_of, take_from, at_cell}
use Rattle.ga_chip.specs.Chip.{Chip, found_by, part_of, pending}
use Rattle.ga_chip.specs.Run.{Event, Move, happened, move_in, moves, moves_of, posted_by, ran, sides_of, taken_by, words_fed}
use Rattle.ga_chip.specs.Laws.{AgreesWith, IsPrefix}
use Rattle.ga_chip.specs.Legal.{DifferInBreaks, IsLegal}
use Rattle.ga_chip.proofs.Confluence.{confluence, moves_agree}
use Rattle.ga_chip.proofs.Parts.{Fits, Passes}
use Rattle.ga_chip.proofs.Events.{replay}
use Rattle.ga_chip.proofs.Kept.{has_name, legal_ran}
use Rattle.ga_chip.proofs.Moments.{Makes, Moment, makes_event, moment, one_at_most}
use Rattle.ga_chip.proofs.Runs.{part_first, posts, ran-append, stand_ran, takes_ran}
use Rattle.ga_race.specs.Clocks.{steps_in}
use Rattle.ga_race.specs.Races.{RunsAgree, HasNoRace, IsOrdered, LeavesOut, NoRace, Posts}
use Rattle.ga_race.proofs.Prefixes.{One, fed_prefix, flow_counts, prefix_of, prefixes_agree, full, next_of, one_or_none, only_move, posted_one, prefix_both, prefix_map, shorter_first, steps_earlier, took, wrote, wrote_append, wrote_less, wrote_one}
use Rattle.ga_race.proofs.Causes.{MovesAgree, fits_made, has_causes}

-- The first post of a run into a cell.
record FirstPost (chip : Chip) (events : List Event) (cell : ℕ) : Type 0 where
  mid : List Event
  post : Event
  rest : List Event
  cut : events ≡ mid ++ post ∷ rest
  none : wrote chip mid cell ≡ 0
  posts : Posts (ran chip mid) post cell

posts_or_none : (q : Asks) (cell : ℕ) → (length (posted_by cell q) ≡ 0)
    ⊎ ((side : Side) × (word : ℕ) × (q ≡ Post side cell word))
posts_or_none (Post side at word) cell = by (cases_eq at cell)
  where
    by : (at ≡ cell) ⊎ (at ≡ cell → ⊥) → (length (posted_by cell (Post side at word)) ≡ 0)
        ⊎ ((to : Side) × (it : ℕ) × (Post side at word ≡ Post to cell it))
    by (inl e) = inr (side, word, ap (λ c. Post side c word) e)
    by (inr apart) = inl (rw (ne_eqb at cell apart) refl)
posts_or_none (Nothing outcome) cell = inl refl
posts_or_none Own cell = inl refl
posts_or_none (Feed word) cell = inl refl
posts_or_none (Take side at) cell = inl refl
posts_or_none (Check side at) cell = inl refl

wrote_first : (chip : Chip) (event : Event) (events : List Event) (cell : ℕ)
    → wrote chip (event ∷ events) cell ≡ wrote chip (event ∷ []) cell + wrote (happened chip event)
    events cell
wrote_first chip event events cell = wrote_append chip (event ∷ []) events cell

none_first : (m n k : ℕ) → m ≡ n + k → n ≡ 0 → (m ≡ 0 → ⊥) → k ≡ 0 → ⊥
none_first m n k e f some g = some (e ∙ ap₂ (λ a b. a + b) f g)

first_by : (chip : Chip) (event : Event) (events : List Event) (cell : ℕ)
    → (wrote chip (event ∷ events) cell ≡ 0 → ⊥)
    → ((wrote (happened chip event) events cell ≡ 0 → ⊥)
    → FirstPost (happened chip event) events cell) → FirstPost chip (event ∷ events) cell
first_by chip event events cell some rest = by (one_or_none chip event)
  where
    later : wrote chip (event ∷ []) cell ≡ 0 → FirstPost (happened chip event) events cell
        → FirstPost chip (event ∷ events) cell
    later e f = record {
      mid = event ∷ f.mid;
      post = f.post;
      rest = f.rest;
      cut = ap (λ es. event ∷ es) f.cut;
      none = wrote_first chip event f.mid cell ∙ ap₂ (λ a b. a + b) e f.none;
      posts = f.posts;
    }

    on : wrote chip (event ∷ []) cell ≡ 0 → FirstPost chip (event ∷ events) cell
    on e = later e (rest (none_first _ _ _ (wrote_first chip event events cell) e some))

    at : (o : One chip event) → (length (posted_by cell o.move.asked) ≡ 0)
        ⊎ ((side : Side) × (word : ℕ) × (o.move.asked ≡ Post side cell word))
        → FirstPost chip (event ∷ events) cell
    at o (inl e) = on (wrote_one chip event o.move cell o.made ∙ e)
    at o (inr (side, word, e)) =
        record {
          mid = [];
          post = event;
          rest = events;
          cut = refl;
          none = refl;
          posts = record
              { move = o.move; made = o.made; side = side; word = word; asked = e };
        }

    by : (move_in chip event ≡ []) ⊎ One chip event → FirstPost chip (event ∷ events) cell
    by (inl none) = on (ap (λ l. length (posts cell l)) (append-nil (move_in chip event) ∙ none))
    by (inr o) = at o (posts_or_none o.move.asked cell)

first_post : (chip : Chip) (events : List Event) (cell : ℕ) → (wrote chip events cell ≡ 0 → ⊥)
    → FirstPost chip events cell
first_post chip [] cell some = absurd (some refl)
first_post chip (event ∷ events) cell some =
    first_by chip event events cell some (first_post (happened chip event) events cell)

-- each node's moves in a run are a prefix of those in another
abbrev pub IsEmbedded : Chip → List Event → List Event → Type 0
IsEmbedded chip run whole =
    (name : ℕ) → IsPrefix (moves_of name (moves chip run)) (moves_of name (moves chip whole))

-- after the same moves a node has the same state
pub same_state : (chip : Chip) (one two : List Event) (name : ℕ) (p q : Part) → IsLegal chip
    → moves_of name (moves chip one) ≡ moves_of name (moves chip two) → part_of (ran chip one) name
    ≡ Some p → part_of (ran chip two) name ≡ Some q → p.state ≡ q.state
same_state chip one two name p q legal same here there =
    let first = part_first chip one name p legal here in
    let a = stand_ran chip one name first.0 legal first.1 in
    let b = stand_ran chip two name first.0 legal first.1 in
    ap (λ x. x.state) (same_Some p a.now (sym here ∙ a.there)) ∙ a.stands
    ∙ ap (replay first.0.state) same ∙ sym b.stands
    ∙ ap (λ x. x.state) (same_Some b.now q (sym b.there ∙ there))

-- a multiport take looks at the side that it names
pub chosen : (sides : Sides) (name : ℕ) (side : Side) (found : Option ℕ)
    → Passes (take_from name (looked_at None sides side)) found → (is_among side sides ≡ true)
    × ((cell : ℕ) × (read_cell name side ≡ Some cell)
    × (take_from name (looked_at None sides side) ≡ Take side cell))
chosen sides name side found passed = by (is_among side sides) refl passed
  where
    at : (o : Option ℕ) → read_cell name side ≡ o → Passes (at_cell (Take side) o) found
        → (cell : ℕ) × (read_cell name side ≡ Some cell) × (at_cell (Take side) o ≡ Take side cell)
    at None e p = absurd p
    at (Some cell) e p = (cell, e, refl)

    by : (b : Bool) → is_among side sides ≡ b → Passes
        (take_from name (if b then Some side else None)) found → (is_among side sides ≡ true)
        × ((cell : ℕ) × (read_cell name side ≡ Some cell)
        × (take_from name (if is_among side sides then Some side else None) ≡ Take side cell))
    by true e p =
        let it = at (read_cell name side) refl p in
        (e, (it.0, it.1, ap (λ b. take_from name (if b then Some side else None)) e ∙ it.2))
    by false e p = absurd p

-- a take posts nothing
take_posts : (q : Asks) (sides : Sides) (name cell : ℕ) → Fits q (need.Take sides) name
    → length (posted_by cell q) ≡ 0
take_posts (Post side at word) sides name cell fits =
    let e : need.Take sides ≡ need.Post side word = fits.1 in cc
take_posts (Nothing outcome) sides name cell fits = refl
take_posts Own sides name cell fits = refl
take_posts (Feed word) sides name cell fits = refl
take_posts (Take side at) sides name cell fits = refl
take_posts (Check side at) sides name cell fits = refl

module _ (chip : Chip) (whole run : List Event) (event : Event) (name : ℕ) (m y : Move)
    (rest : List Move) (legal : IsLegal chip) (race : HasNoRace chip whole)
    (inside : IsEmbedded chip run whole)
    (now : moves_of name (move_in (ran chip run) event) ≡ m ∷ [])
    (next : moves_of name (moves chip whole) ≡ moves_of name (moves chip run) ++ (y ∷ rest)) where
  abbrev a : Makes (ran chip run) name m
  a = makes_event (ran chip run) event name m now

  abbrev mo : Moment chip whole name (moves_of name (moves chip run)) y
  mo = moment chip whole name (moves_of name (moves chip run)) y rest next

  abbrev b : Makes (ran chip mo.before) name y
  b = makes_event (ran chip mo.before) mo.event name y mo.now

  equal_states : a.part.state ≡ b.part.state
  equal_states =
      same_state chip run mo.before name a.part b.part legal (sym mo.so_far) a.there b.there

  node_a : a.part.state.node ≡ name
  node_a = (legal_ran chip run legal).named name a.part a.there

  named : IsNodeName name
  named = has_name (ran chip run) name a.part (legal_ran chip run legal) a.there

  -- TWO SIDES ARE NOT TAKEN
  contest : (sides : Sides) → need_of b.part.state ≡ need.Take sides → one_side sides ≡ None
      → (a.side ≡ b.side → ⊥) → ⊥
  contest sides needs several apart =
      let needs_a : need_of a.part.state ≡ need.Take sides = ap need_of equal_states ∙ needs in
      let asks : m.asked ≡ take_from name (looked_at None sides a.side) =
      a.asked ∙ ap₂ (λ n at. asks_by n at a.part.stream a.side) needs_a node_a
      ∙ ap (λ o. take_from name (looked_at o sides a.side)) several in
      let it = chosen sides name a.side m.found (subst (λ q. Passes q m.found) asks a.passed) in
      let cell : ℕ = it.1.0 in
      let takes : m.asked ≡ Take a.side cell = asks ∙ it.1.2 in
      let word = subst (λ q. Passes q m.found) takes a.passed in
      let holds : pending (ran chip run) cell ≡ Some word.0 =
      ap (λ q. found_by q (ran chip run).cells) (sym takes) ∙ sym a.looks ∙ word.1 in
      let left : LeavesOut (ran chip mo.before) mo.event name cell = record {
        part = b.part;
        there = b.there;
        move = y;
        made = mo.now;
        taken = b.side;
        picked =
            b.picks ∙ ap (λ n. picked_by n b.side) needs ∙ ap (λ o. picked_of o b.side) several;
        left_out = a.side;
        apart = apart;
        among = ap (takes_at a.side) needs ∙ it.0;
        reads = it.1.1;
      } in
      let ordered : IsOrdered chip mo.before mo.event mo.later name cell =
      race mo.before mo.later mo.event name cell mo.cut left in
      let writer = writer_there name cell a.side it.1.1 in
      let wrote_run : wrote chip run cell ≤ wrote chip whole cell =
      wrote_less chip run whole writer.0 cell a.side legal writer.2 (inside writer.0) in
      let took_same : took chip mo.before cell ≡ took chip run cell =
      ap (λ l. length l) (takes_ran chip mo.before name cell a.side legal named it.1.1
      ∙ ap (λ ms. flat_map (λ move. taken_by cell move.asked move.found) ms) mo.so_far
      ∙ sym (takes_ran chip run name cell a.side legal named it.1.1)) in
      let flow_before = flow_counts chip mo.before cell legal in
      let flow_run = flow_counts chip run cell legal in
      let empty : full (pending (ran chip mo.before) cell) ≡ 0 = ap full ordered.empty in
      let one : full (pending (ran chip run) cell) ≡ 1 = ap full holds in
      let one_more : wrote chip run cell ≡ wrote chip mo.before cell + 1 = omega arith in
      -- the take itself posts nothing
      let quiet : wrote (ran chip mo.before) (mo.event ∷ []) cell ≡ 0 =
      wrote_one (ran chip mo.before) mo.event y cell
      (only_move (ran chip mo.before) mo.event name y mo.now)
      ∙ take_posts y.asked sides name cell (subst (λ n. Fits y.asked n name) needs
      (fits_made (ran chip mo.before) name y b (legal_ran chip mo.before legal))) in
      let cut : wrote chip whole cell ≡ wrote chip mo.before cell +
      (wrote (ran chip mo.before) (mo.event ∷ []) cell + wrote
      (happened (ran chip mo.before) mo.event) mo.later cell) =
      ap (λ es. wrote chip es cell) mo.cut ∙ wrote_append chip mo.before (mo.event ∷ mo.later) cell
      ∙ ap (λ n. wrote chip mo.before cell + n) (wrote_first (ran chip mo.before) mo.event mo.later
      cell) in
      let some : wrote (happened (ran chip mo.before) mo.event) mo.later cell ≡ 0 → ⊥ =
      λ none. some_more _ _ _ _ _ one_more wrote_run cut quiet none in
      let f = first_post (happened (ran chip mo.before) mo.event) mo.later cell some in
      let moment_of : ran (happened (ran chip mo.before) mo.event) f.mid
      ≡ ran chip (mo.before ++ mo.event ∷ f.mid) = sym
      (ran-append chip mo.before (mo.event ∷ f.mid)) in
      let posts : Posts (ran chip (mo.before ++ mo.event ∷ f.mid)) f.post cell =
      subst (λ c. Posts c f.post cell) moment_of f.posts in
      let behind = ordered.comes_after f.mid f.rest f.post f.cut posts in
      let upto : List Event = (mo.before ++ mo.event ∷ f.mid) ++ f.post ∷ [] in
      let whole_is : whole ≡ upto ++ f.rest =
      mo.cut ∙ ap (λ es. mo.before ++ mo.event ∷ es) f.cut
      ∙ sym (append_assoc mo.before (mo.event ∷ f.mid) (f.post ∷ f.rest))
      ∙ sym (append_assoc (mo.before ++ mo.event ∷ f.mid) (f.post ∷ []) f.rest) in
      let agree : MovesAgree chip upto run =
      λ n. prefixes_agree (moves_of n (moves chip upto)) (moves_of n (moves chip run))
      (moves_of n (moves chip whole)) (subst (λ es. IsPrefix (moves_of n (moves chip upto))
      (moves_of n (moves chip es))) (sym whole_is) (prefix_of chip upto f.rest n)) (inside n) in
      let posted : wrote (ran chip (mo.before ++ mo.event ∷ f.mid)) (f.post ∷ []) cell ≡ 1 =
      wrote_one _ f.post posts.move cell posts.made
      ∙ ap (λ q. length (posted_by cell q)) posts.asked ∙ posted_one posts.side cell posts.word in
      let count : wrote chip upto cell ≡ (wrote chip mo.before cell +
      (wrote (ran chip mo.before) (mo.event ∷ []) cell + wrote
      (happened (ran chip mo.before) mo.event) f.mid cell)) + wrote
      (ran chip (mo.before ++ mo.event ∷ f.mid)) (f.post ∷ []) cell =
      wrote_append chip (mo.before ++ mo.event ∷ f.mid) (f.post ∷ []) cell
      ∙ ap (λ n. n + wrote (ran chip (mo.before ++ mo.event ∷ f.mid)) (f.post ∷ []) cell)
      (wrote_append chip mo.before (mo.event ∷ f.mid) cell
      ∙ ap (λ n. wrote chip mo.before cell + n) (wrote_first (ran chip mo.before) mo.event f.mid
      cell)) in
      let made : wrote chip upto cell ≤ wrote chip run cell =
      made_all _ _ _ _ _ _ count quiet f.none posted one_more in
      let clock = (has_causes chip run upto legal agree).posts cell name made in
      let steps : steps_in chip (mo.before ++ mo.event ∷ []) name ≡ steps_in chip run name + 1 =
      ap (λ l. length l) (next_of chip mo.before mo.event name
      ∙ ap₂ (λ xs ys. xs ++ ys) mo.so_far mo.now)
      ∙ length-append (moves_of name (moves chip run)) (y ∷ []) in
      too_many _ _ _ behind clock steps
    where
      some_more : (run before whole quiet later : ℕ) → run ≡ before + 1 → run ≤ whole → whole
          ≡ before + (quiet + later) → quiet ≡ 0 → later ≡ 0 → ⊥
      some_more run before whole quiet later a b c d e = absurd (omega arith)

      made_all : (upto before quiet mid posted run : ℕ) → upto ≡ (before + (quiet + mid)) + posted
          → quiet ≡ 0 → mid ≡ 0 → posted ≡ 1 → run ≡ before + 1 → upto ≤ run
      made_all upto before quiet mid posted run a b c d e = omega arith

      too_many : (take clock steps : ℕ) → take ≤ clock → clock ≤ steps → take ≡ steps + 1 → ⊥
      too_many take clock steps a b c = absurd (omega arith)

  -- so the same side is taken
  same_side : (sides : Sides) → need_of b.part.state ≡ need.Take sides → (o : Option Side)
      → one_side sides ≡ o → picked_of o a.side ≡ picked_of o b.side
  same_side sides needs (Some only) e = refl
  same_side sides needs None e = by (cases_eq (side_bit a.side) (side_bit b.side))
    where
      by : (side_bit a.side ≡ side_bit b.side) ⊎ (side_bit a.side ≡ side_bit b.side → ⊥)
          → picked_of None a.side ≡ picked_of None b.side
      by (inl same) = ap (λ s. s ∷ []) (same_bit a.side b.side same)
      by (inr apart) = absurd (contest sides needs e (λ same. apart (ap side_bit same)))

  same_need : (n : Need) → need_of b.part.state ≡ n → picked_by n a.side ≡ picked_by n b.side
  same_need (need.Take sides) e = same_side sides e (one_side sides) refl
  same_need need.Own e = refl
  same_need (need.Post to word) e = refl
  same_need (need.Check to) e = refl
  same_need need.Input e = refl
  same_need (need.Stopped stop) e = refl

  same_pick : m.picked ≡ y.picked
  same_pick =
      a.picks ∙ ap (λ s. picked_by (need_of s) a.side) equal_states
      ∙ same_need (need_of b.part.state) refl ∙ sym b.picks

abbrev picks : List Move → List Side
picks ms = flat_map (λ move. move.picked) ms

-- THE SIDES AGREE after one more event
sides_next : (chip : Chip) (whole run : List Event) (event : Event) → IsLegal chip
    → HasNoRace chip whole → IsEmbedded chip run whole
    → ((name : ℕ) → steps_in chip (run ++ event ∷ []) name ≤ steps_in chip whole name) → (name : ℕ)
    → AgreesWith (sides_of chip (run ++ event ∷ []) name) (sides_of chip whole name)
sides_next chip whole run event legal race inside room name =
    by (one_at_most (ran chip run) event name)
  where
    old : AgreesWith (sides_of chip run name) (sides_of chip whole name)
    old =
        inl (prefix_map (λ move. move.picked) (moves_of name (moves chip run))
        (moves_of name (moves chip whole)) (inside name))

    long : (m : Move) → moves_of name (move_in (ran chip run) event) ≡ m ∷ []
        → steps_in chip (run ++ event ∷ []) name ≡ steps_in chip run name + 1
    long m now =
        ap (λ l. length l) (next_of chip run event name
        ∙ ap (λ l. moves_of name (moves chip run) ++ l) now)
        ∙ length-append (moves_of name (moves chip run)) (m ∷ [])

    goes_on : (m : Move) → moves_of name (move_in (ran chip run) event) ≡ m ∷ []
        → (more : List Move) → moves_of name (moves chip whole) ≡ moves_of name (moves chip run)
        ++ more → AgreesWith (sides_of chip (run ++ event ∷ []) name) (sides_of chip whole name)
    goes_on m now [] e =
        absurd (too_long _ _ _ (long m now) (room name) (ap (λ l. length l) (e ∙ append-nil _)))
      where
        too_long : (more run whole : ℕ) → more ≡ run + 1 → more ≤ whole → whole ≡ run → ⊥
        too_long more run whole a b c = absurd (omega arith)
    goes_on m now (y ∷ rest) e =
        let front : List Side = picks (moves_of name (moves chip run)) in
        let one : sides_of chip (run ++ event ∷ []) name ≡ front ++ m.picked =
        ap picks (next_of chip run event name ∙ ap (λ l. moves_of name (moves chip run) ++ l) now)
        ∙ flat_map-append (λ move. move.picked) (moves_of name (moves chip run)) (m ∷ [])
        ∙ ap (λ l. front ++ l) (append-nil m.picked) in
        let two : sides_of chip whole name ≡ front ++ (y.picked ++ picks rest) =
        ap picks e ∙ flat_map-append (λ move. move.picked) (moves_of name (moves chip run))
        (y ∷ rest) in
        let same : m.picked ≡ y.picked =
        same_pick chip whole run event name m y rest legal race inside now e in
        inl (
          picks rest,
          two ∙ sym (append_assoc front y.picked (picks rest))
              ∙ ap (λ l. (front ++ l) ++ picks rest) (sym same)
              ∙ ap (λ l. l ++ picks rest) (sym one),
        )

    by : (moves_of name (move_in (ran chip run) event) ≡ [])
        ⊎ ((m : Move) × (moves_of name (move_in (ran chip run) event) ≡ m ∷ []))
        → AgreesWith (sides_of chip (run ++ event ∷ []) name) (sides_of chip whole name)
    by (inl none) =
        subst (λ ms. AgreesWith (picks ms) (sides_of chip whole name))
        (sym (next_of chip run event name ∙ ap (λ l. moves_of name (moves chip run) ++ l) none
        ∙ append-nil _)) old
    by (inr (m, now)) = goes_on m now (inside name).0 (inside name).1

pub same_chip : (chip : Chip) → DifferInBreaks chip chip
same_chip chip = record { parts = refl; cells = refl }

-- a run within the steps is still embedded after one more event
pub embedded_next : (chip : Chip) (whole run : List Event) (event : Event) → IsLegal chip
    → HasNoRace chip whole → IsEmbedded chip run whole
    → ((name : ℕ) → steps_in chip (run ++ event ∷ []) name ≤ steps_in chip whole name)
    → ((name : ℕ) → IsPrefix (words_fed chip (run ++ event ∷ []) name) (words_fed chip whole name))
    → IsEmbedded chip (run ++ event ∷ []) whole
embedded_next chip whole run event legal race inside room fed name =
    shorter_first (moves_of name (moves chip (run ++ event ∷ [])))
    (moves_of name (moves chip whole))
    (moves_agree chip chip (run ++ event ∷ []) whole legal legal (same_chip chip)
    (sides_next chip whole run event legal race inside room) (λ n. inl (fed n)) name) (room name)

-- what is known of each event of a run: there is room for its step
abbrev pub HasRoom : Chip → List Event → List Event → Type 0
HasRoom chip whole run =
    (done more : List Event) (event : Event) → run ≡ done ++ event ∷ more
    → IsEmbedded chip done whole → (name : ℕ) → steps_in chip (done ++ event ∷ []) name
    ≤ steps_in chip whole name

abbrev pub IsFedPrefix : Chip → List Event → List Event → Type 0
IsFedPrefix chip whole run =
    (name : ℕ) → IsPrefix (words_fed chip run name) (words_fed chip whole name)

pub fed_earlier : (chip : Chip) (whole done more : List Event)
    → IsFedPrefix chip whole (done ++ more) → IsFedPrefix chip whole done
fed_earlier chip whole done more fed name =
    prefix_both (words_fed chip done name) (words_fed chip (done ++ more) name)
    (words_fed chip whole name) (fed_prefix chip done more name) (fed name)

embedded_on : (chip : Chip) (whole run done more : List Event) → IsLegal chip → HasNoRace chip whole
    → HasRoom chip whole run → IsFedPrefix chip whole run → run ≡ done ++ more
    → IsEmbedded chip done whole → IsEmbedded chip run whole
embedded_on chip whole run done [] legal race room fed e inside =
    subst (λ es. IsEmbedded chip es whole) (sym (append-nil done) ∙ sym e) inside
embedded_on chip whole run done (event ∷ more) legal race room fed e inside =
    let e' : run ≡ (done ++ event ∷ []) ++ more = e ∙ sym (append_assoc done (event ∷ []) more) in
    embedded_on chip whole run (done ++ event ∷ []) more legal race room fed e'
    (embedded_next chip whole done event legal race inside (room done more event e inside)
    (fed_earlier chip whole (done ++ event ∷ []) more (subst (IsFedPrefix chip whole) e' fed)))

pub embedded : (chip : Chip) (whole run : List Event) → IsLegal chip → HasNoRace chip whole
    → HasRoom chip whole run → IsFedPrefix chip whole run → IsEmbedded chip run whole
embedded chip whole run legal race room fed =
    embedded_on chip whole run [] run legal race room fed refl
    (λ name. (moves_of name (moves chip whole), refl))

-- two embedded runs agree
pub runs_agree : (chip : Chip) (whole one two : List Event) → IsLegal chip
    → IsEmbedded chip one whole → IsEmbedded chip two whole → IsFedPrefix chip whole one
    → IsFedPrefix chip whole two → RunsAgree chip one two
runs_agree chip whole one two legal inside inside' fed fed' =
    record {
      sides = sides;
      agree = confluence chip chip one two legal legal (same_chip chip) sides
          (λ name. prefixes_agree (words_fed chip one name) (words_fed chip two name)
          (words_fed chip whole name) (fed name) (fed' name));
    }
  where
    sides : (name : ℕ) → AgreesWith (sides_of chip one name) (sides_of chip two name)
    sides name =
        prefixes_agree (sides_of chip one name) (sides_of chip two name) (sides_of chip whole name)
        (prefix_map (λ move. move.picked) (moves_of name (moves chip one))
        (moves_of name (moves chip whole)) (inside name))
        (prefix_map (λ move. move.picked) (moves_of name (moves chip two))
        (moves_of name (moves chip whole)) (inside' name))

-- a run within the bounds has room
pub within_room : (chip : Chip) (whole run : List Event)
    → ((name : ℕ) → steps_in chip run name ≤ steps_in chip whole name) → HasRoom chip whole run
within_room chip whole run within done more event e inside name =
    let front : steps_in chip (done ++ event ∷ []) name
    ≤ steps_in chip ((done ++ event ∷ []) ++ more) name = steps_earlier chip (done ++ event ∷ [])
    more name in
    let same : (done ++ event ∷ []) ++ more ≡ run = append_assoc done (event ∷ []) more ∙ sym e in
    below _ _ _ (subst (λ es. steps_in chip (done ++ event ∷ []) name ≤ steps_in chip es name) same
    front) (within name)
  where
    below : (a b c : ℕ) → a ≤ b → b ≤ c → a ≤ c
    below a b c h g = omega arith

-- NO RACE
pub no_race : NoRace
no_race chip whole legal race one two within within' =
    runs_agree chip whole one two legal
    (embedded chip whole one legal race (within_room chip whole one within.steps) within.fed)
    (embedded chip whole two legal race (within_room chip whole two within'.steps) within'.fed)
    within.fed within'.fed
