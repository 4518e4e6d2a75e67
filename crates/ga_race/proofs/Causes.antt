-- A run has the causes of its steps. If its nodes make the same moves as in another run, on their
-- common steps, then it makes each step that comes before one of its own by a clock of the other
-- run.
use Rattle.std.proofs.Common.{◌≡◌, ℕ, ◌+◌, ◌≤◌, ◌<◌, ◌==◌, Bool, true, false, List, [], ◌∷◌, ◌++◌, ◌⊎◌, inl, inr, length, Some, None, refl, sym, ap, ◌∙◌, subst, append-nil, append_assoc, length-append, zero-le, arith}
use Rattle.std.specs.Prelude.{if◌then◌else◌, max}
use Rattle.std.proofs.Math.Nat.{max-le}
use Rattle.std.proofs.lemmas.Bool.{cases_lt, eqb-true}
use Rattle.ga_place.specs.Node.{IsNodeName}
use Rattle.ga_place.specs.Cell.{cell_of, read_cell}
use Rattle.ga_place.specs.declared.side.Side.{Side}
use Rattle.ga_node.specs.Need.{need_of}
use Rattle.ga_chip.specs.Part.{Asks, Nothing, Own, Feed, Post, Check, Take}
use Rattle.ga_chip.specs.Chip.{Chip, found_by, pending}
use Rattle.ga_chip.specs.Run.{Event, Move, move_in, moves, moves_of, posted_by, ran, taken_by}
use Rattle.ga_chip.specs.Laws.{AgreesWith, IsPrefix}
use Rattle.ga_chip.specs.Legal.{IsLegal}
use Rattle.ga_chip.proofs.Lists.{agree_left, agree_sym}
use Rattle.ga_chip.proofs.Parts.{Fits, Passes}
use Rattle.ga_chip.proofs.Kept.{has_name, legal_ran}
use Rattle.ga_chip.proofs.Moments.{Makes, makes_event, moment}
use Rattle.ga_race.specs.Clocks.{Clock, Clocks, cause_of, clock_of, clocks, clocks_by, clocks_on, no_clocks, post_clocks, steps_in, take_clocks, with_clock}
use Rattle.ga_race.proofs.Prefixes.{One, prefix_of, full, flow_counts, its_own, moves_next, next_of, one_at_most, one_or_none, posted_one, prefix_self, shorter_first, steps_earlier, taken_one, took, took_append, took_less, took_one, wrote, wrote_append, wrote_less, wrote_one, prefix_same}

pub clocks_on-append : (cs : Clocks) (ms more : List Move) → clocks_on cs (ms ++ more)
    ≡ clocks_on (clocks_on cs ms) more
clocks_on-append cs [] more = refl
clocks_on-append cs (move ∷ ms) more = clocks_on-append (clocks_by move cs) ms more

-- the clocks after one more event
clocks_none : (chip : Chip) (done : List Event) (event : Event) → move_in (ran chip done) event ≡ []
    → clocks chip (done ++ event ∷ []) ≡ clocks chip done
clocks_none chip done event e =
    ap (clocks_on no_clocks) (moves_next chip done event ∙ ap (λ l. moves chip done ++ l) e
    ∙ append-nil (moves chip done))

pub clocks_one : (chip : Chip) (done : List Event) (event : Event) (m : Move)
    → move_in (ran chip done) event ≡ m ∷ [] → clocks chip (done ++ event ∷ [])
    ≡ clocks_by m (clocks chip done)
clocks_one chip done event m e =
    ap (clocks_on no_clocks) (moves_next chip done event ∙ ap (λ l. moves chip done ++ l) e)
    ∙ clocks_on-append no_clocks (moves chip done) (m ∷ [])

-- Bounds of clocks.
max_more : (a b k : ℕ) → a + 1 ≤ k → b + 1 ≤ k → max a b + 1 ≤ k
max_more a b k h g = omega arith

clock_below : (m : Move) (cs : Clocks) (x k : ℕ) → cs.nodes m.node x ≤ k → cause_of m.asked cs x ≤ k
    → (x ≡ m.node → (cs.nodes m.node x + 1 ≤ k) × (cause_of m.asked cs x + 1 ≤ k)) → clock_of m cs x
    ≤ k
clock_below m cs x k own other more = go (x == m.node) refl
  where
    go : (b : Bool) → (x == m.node) ≡ b → (if b then max (cs.nodes m.node x) (cause_of m.asked cs x)
        + 1 else max (cs.nodes m.node x) (cause_of m.asked cs x)) ≤ k
    go true e = let both = more (eqb-true x m.node e) in max_more _ _ k both.0 both.1
    go false e = max-le own other

with_below : (place : ℕ) (clock : Clock) (cs : ℕ → Clock) (at x k : ℕ) → (at ≡ place → clock x ≤ k)
    → cs at x ≤ k → with_clock place clock cs at x ≤ k
with_below place clock cs at x k here old = go (at == place) refl
  where
    go : (b : Bool) → (at == place) ≡ b → (if b then clock else cs at) x ≤ k
    go true e = here (eqb-true at place e)
    go false e = old

post_below : (q : Asks) (clock : Clock) (cs : ℕ → Clock) (cell x k : ℕ)
    → ((side : Side) (word : ℕ) → q ≡ Post side cell word → clock x ≤ k) → cs cell x ≤ k
    → post_clocks q clock cs cell x ≤ k
post_below (Post side at word) clock cs cell x k here old =
    with_below at clock cs cell x k (λ e. here side word (ap (λ c. Post side c word) (sym e))) old
post_below (Nothing outcome) clock cs cell x k here old = old
post_below Own clock cs cell x k here old = old
post_below (Feed word) clock cs cell x k here old = old
post_below (Take side at) clock cs cell x k here old = old
post_below (Check side at) clock cs cell x k here old = old

take_below : (q : Asks) (clock : Clock) (cs : ℕ → Clock) (cell x k : ℕ)
    → ((side : Side) → q ≡ Take side cell → clock x ≤ k) → cs cell x ≤ k
    → take_clocks q clock cs cell x ≤ k
take_below (Take side at) clock cs cell x k here old =
    with_below at clock cs cell x k (λ e. here side (ap (Take side) (sym e))) old
take_below (Nothing outcome) clock cs cell x k here old = old
take_below Own clock cs cell x k here old = old
take_below (Feed word) clock cs cell x k here old = old
take_below (Post side at word) clock cs cell x k here old = old
take_below (Check side at) clock cs cell x k here old = old

pub cause_below : (q : Asks) (cs : Clocks) (x k : ℕ)
    → ((side : Side) (cell : ℕ) → q ≡ Take side cell → cs.posts cell x ≤ k)
    → ((side : Side) (cell : ℕ) → q ≡ Check side cell → cs.takes cell x ≤ k) → cause_of q cs x ≤ k
cause_below (Take side cell) cs x k take check = take side cell refl
cause_below (Check side cell) cs x k take check = check side cell refl
cause_below (Nothing outcome) cs x k take check = zero-le
cause_below Own cs x k take check = zero-le
cause_below (Feed word) cs x k take check = zero-le
cause_below (Post side cell word) cs x k take check = zero-le

-- the move's node makes one step more
steps_more : (chip : Chip) (done : List Event) (event : Event) (m : Move)
    → move_in (ran chip done) event ≡ m ∷ [] → steps_in chip (done ++ event ∷ []) m.node
    ≡ steps_in chip done m.node + 1
steps_more chip done event m e =
    ap (λ l. length l) (next_of chip done event m.node
    ∙ ap (λ l. moves_of m.node (moves chip done) ++ moves_of m.node l) e
    ∙ ap (λ l. moves_of m.node (moves chip done) ++ l) (its_own m.node m refl))
    ∙ length-append (moves_of m.node (moves chip done)) (m ∷ [])

-- NO CLOCK RUNS AHEAD of the steps that were made.
pub record IsBehind (chip : Chip) (done : List Event) : Type 0 where
  pub nodes : (name x : ℕ) → (clocks chip done).nodes name x ≤ steps_in chip done x
  pub posts : (cell x : ℕ) → (clocks chip done).posts cell x ≤ steps_in chip done x
  pub takes : (cell x : ℕ) → (clocks chip done).takes cell x ≤ steps_in chip done x

le_both : (a b c : ℕ) → a ≤ b → b ≤ c → a ≤ c
le_both a b c h g = omega arith

one_more : (a b c : ℕ) → a ≤ b → c ≡ b + 1 → a + 1 ≤ c
one_more a b c h g = omega arith

behind_one : (chip : Chip) (done : List Event) (event : Event) → One (ran chip done) event
    → IsBehind chip done → IsBehind chip (done ++ event ∷ [])
behind_one chip done event o b = record {
  nodes =
      λ name x. subst (λ cs. cs.nodes name x ≤ now x) (sym moved)
      (with_below m.node (clock_of m old) old.nodes name x (now x) (λ e. new x)
      (grown x (b.nodes name x)));
  posts =
      λ cell x. subst (λ cs. cs.posts cell x ≤ now x) (sym moved)
      (post_below m.asked (clock_of m old) old.posts cell x (now x) (λ side word e. new x)
      (grown x (b.posts cell x)));
  takes =
      λ cell x. subst (λ cs. cs.takes cell x ≤ now x) (sym moved)
      (take_below m.asked (clock_of m old) old.takes cell x (now x) (λ side e. new x)
      (grown x (b.takes cell x)));
}
  where
    m : Move
    m = o.move

    old : Clocks
    old = clocks chip done

    now : ℕ → ℕ
    now x = steps_in chip (done ++ event ∷ []) x

    moved : clocks chip (done ++ event ∷ []) ≡ clocks_by m old
    moved = clocks_one chip done event m o.made

    grown : (x : ℕ) {a : ℕ} → a ≤ steps_in chip done x → a ≤ now x
    grown x {a = a} h =
        le_both a (steps_in chip done x) (now x) h (steps_earlier chip done (event ∷ []) x)

    cause : (x : ℕ) → cause_of m.asked old x ≤ steps_in chip done x
    cause x =
        cause_below m.asked old x (steps_in chip done x) (λ side cell e. b.posts cell x)
        (λ side cell e. b.takes cell x)

    more : (x : ℕ) → x ≡ m.node → now x ≡ steps_in chip done x + 1
    more x e =
        subst (λ y. now y ≡ steps_in chip done y + 1) (sym e) (steps_more chip done event m o.made)

    new : (x : ℕ) → clock_of m old x ≤ now x
    new x =
        clock_below m old x (now x) (grown x (b.nodes m.node x)) (grown x (cause x))
        (λ e. (one_more _ _ _ (b.nodes m.node x) (more x e), one_more _ _ _ (cause x) (more x e)))

behind_none : (chip : Chip) (done : List Event) (event : Event) → move_in (ran chip done) event ≡ []
    → IsBehind chip done → IsBehind chip (done ++ event ∷ [])
behind_none chip done event e b = record {
  nodes = λ name x. subst (λ cs. cs.nodes name x ≤ now x) (sym same) (grown x (b.nodes name x));
  posts = λ cell x. subst (λ cs. cs.posts cell x ≤ now x) (sym same) (grown x (b.posts cell x));
  takes = λ cell x. subst (λ cs. cs.takes cell x ≤ now x) (sym same) (grown x (b.takes cell x));
}
  where
    now : ℕ → ℕ
    now x = steps_in chip (done ++ event ∷ []) x

    same : clocks chip (done ++ event ∷ []) ≡ clocks chip done
    same = clocks_none chip done event e

    grown : (x : ℕ) {a : ℕ} → a ≤ steps_in chip done x → a ≤ now x
    grown x {a = a} h =
        le_both a (steps_in chip done x) (now x) h (steps_earlier chip done (event ∷ []) x)

-- THE CAUSES OF ITS STEPS ARE MADE IN A RUN, by the clocks of a moment of another.
pub record HasCauses (chip : Chip) (run done : List Event) : Type 0 where
  pub nodes : (name x : ℕ) → steps_in chip done name ≤ steps_in chip run name
      → (clocks chip done).nodes name x ≤ steps_in chip run x
  pub posts : (cell x : ℕ) → wrote chip done cell ≤ wrote chip run cell
      → (clocks chip done).posts cell x ≤ steps_in chip run x
  pub takes : (cell x : ℕ) → took chip done cell ≤ took chip run cell
      → (clocks chip done).takes cell x ≤ steps_in chip run x

-- the nodes make the same moves in two runs, on their common steps
abbrev pub MovesAgree : Chip → List Event → List Event → Type 0
MovesAgree chip one two =
    (name : ℕ) → AgreesWith (moves_of name (moves chip one)) (moves_of name (moves chip two))

pub agree_earlier : (chip : Chip) (done more run : List Event) → MovesAgree chip (done ++ more) run
    → MovesAgree chip done run
agree_earlier chip done more run agree name =
    let front = prefix_of chip done more name in
    agree_left (moves_of name (moves chip done)) front.0 (moves_of name (moves chip run))
    (subst (λ l. AgreesWith l (moves_of name (moves chip run))) front.1 (agree name))

wrote_next : (chip : Chip) (done : List Event) (event : Event) (m : Move) (side : Side)
    (cell word : ℕ) → move_in (ran chip done) event ≡ m ∷ [] → m.asked ≡ Post side cell word
    → wrote chip (done ++ event ∷ []) cell ≡ wrote chip done cell + 1
wrote_next chip done event m side cell word e is =
    wrote_append chip done (event ∷ []) cell ∙ ap (λ n. wrote chip done cell + n)
    (wrote_one (ran chip done) event m cell e ∙ ap (λ q. length (posted_by cell q)) is
    ∙ posted_one side cell word)

took_next : (chip : Chip) (done : List Event) (event : Event) (m : Move) (side : Side)
    (cell word : ℕ) → move_in (ran chip done) event ≡ m ∷ [] → m.asked ≡ Take side cell → m.found
    ≡ Some word → took chip (done ++ event ∷ []) cell ≡ took chip done cell + 1
took_next chip done event m side cell word e is found =
    took_append chip done (event ∷ []) cell ∙ ap (λ n. took chip done cell + n)
    (took_one (ran chip done) event m cell e ∙ ap (λ q. length (taken_by cell q m.found)) is
    ∙ ap (λ f. length (taken_by cell (Take side cell) f)) found ∙ taken_one side cell word)

-- what a move fits, by the name of its node
pub fits_made : (chip : Chip) (name : ℕ) (m : Move) (a : Makes chip name m) → IsLegal chip
    → Fits m.asked (need_of a.part.state) name
fits_made chip name m a legal =
    subst (λ n. Fits m.asked (need_of a.part.state) n) (legal.named name a.part a.there) a.fits

-- One move more of the other run.
record NextMove (chip : Chip) (run done : List Event) (event : Event) : Type 0 where
  one : One (ran chip done) event
  legal : IsLegal chip
  agree : MovesAgree chip (done ++ event ∷ []) run
  behind : IsBehind chip done
  causes : HasCauses chip run done

module _ (chip : Chip) (run done : List Event) (event : Event)
    (s : NextMove chip run done event) where
  abbrev m : Move
  m = s.one.move

  abbrev z : ℕ
  z = s.one.move.node

  earlier : MovesAgree chip done run
  earlier = agree_earlier chip done (event ∷ []) run s.agree

  legal_now : IsLegal (ran chip done)
  legal_now = legal_ran chip done s.legal

  named : IsNodeName z
  named = has_name (ran chip done) z s.one.makes.part legal_now s.one.makes.there

  fits : Fits m.asked (need_of s.one.makes.part.state) z
  fits = fits_made (ran chip done) z m s.one.makes legal_now

  -- the run has the node's move
  front : steps_in chip (done ++ event ∷ []) z ≤ steps_in chip run z
      → IsPrefix (moves_of z (moves chip (done ++ event ∷ []))) (moves_of z (moves chip run))
  front h = shorter_first _ _ (s.agree z) h

  reader : (side : Side) (cell : ℕ) → m.asked ≡ Take side cell → read_cell z side ≡ Some cell
  reader side cell e = (subst (λ q. Fits q (need_of s.one.makes.part.state) z) e fits).1

  writer : (side : Side) (cell word : ℕ) → m.asked ≡ Post side cell word → cell_of z side
      ≡ Some cell
  writer side cell word e = (subst (λ q. Fits q (need_of s.one.makes.part.state) z) e fits).0

  checker : (side : Side) (cell : ℕ) → m.asked ≡ Check side cell → cell_of z side ≡ Some cell
  checker side cell e = (subst (λ q. Fits q (need_of s.one.makes.part.state) z) e fits).0

  found_word : (side : Side) (cell : ℕ) → m.asked ≡ Take side cell → (word : ℕ)
      × (m.found ≡ Some word)
  found_word side cell e = subst (λ q. Passes q m.found) e s.one.makes.passed

  took_more : (side : Side) (cell : ℕ) → m.asked ≡ Take side cell
      → took chip (done ++ event ∷ []) cell ≡ took chip done cell + 1
  took_more side cell e =
      let w = found_word side cell e in took_next chip done event m side cell w.0 s.one.made e w.1

  -- if a node of the run took a word, the word was written in the run
  posts_made : (side : Side) (cell : ℕ) → m.asked ≡ Take side cell
      → steps_in chip (done ++ event ∷ []) z ≤ steps_in chip run z → wrote chip done cell
      ≤ wrote chip run cell
  posts_made side cell e h =
      let more = took_more side cell e in
      let taken : took chip (done ++ event ∷ []) cell ≤ took chip run cell =
      took_less chip (done ++ event ∷ []) run z cell side s.legal named (reader side cell e)
      (front h) in
      let here = flow_counts chip done cell s.legal in
      let there = flow_counts chip run cell s.legal in
      let one = one_at_most (pending (ran chip done) cell) in
      omega arith

  -- and if a node of the run saw that a word was read, the word was taken in it
  takes_made : (side : Side) (cell : ℕ) → m.asked ≡ Check side cell
      → steps_in chip (done ++ event ∷ []) z ≤ steps_in chip run z → took chip done cell
      ≤ took chip run cell
  takes_made side cell e h =
      let f = front h in
      let now : moves_of z (moves chip (done ++ event ∷ [])) ≡ moves_of z (moves chip done)
      ++ m ∷ [] = next_of chip done event z ∙ ap (λ l. moves_of z (moves chip done) ++ moves_of z l)
      s.one.made ∙ ap (λ l. moves_of z (moves chip done) ++ l) (its_own z m refl) in
      let mo =
      moment chip run z (moves_of z (moves chip done)) m f.0
      (f.1 ∙ ap (λ l. l ++ f.0) now ∙ append_assoc (moves_of z (moves chip done)) (m ∷ []) f.0) in
      let makes = makes_event (ran chip mo.before) mo.event z m mo.now in
      let none : pending (ran chip mo.before) cell ≡ None =
      ap (λ q. found_by q (ran chip mo.before).cells) (sym e) ∙ sym makes.looks
      ∙ subst (λ q. Passes q m.found) e makes.passed in
      let empty : full (pending (ran chip mo.before) cell) ≡ 0 = ap full none in
      let there = flow_counts chip mo.before cell s.legal in
      let here = flow_counts chip done cell s.legal in
      let same : wrote chip done cell ≤ wrote chip mo.before cell =
      wrote_less chip done mo.before z cell side s.legal (checker side cell e)
      (prefix_same (moves_of z (moves chip done)) (moves_of z (moves chip mo.before))
      (sym mo.so_far)) in
      let less : took chip mo.before cell ≤ took chip run cell =
      subst (λ es. took chip mo.before cell ≤ took chip es cell) (sym mo.cut)
      (le_append mo.before (mo.event ∷ mo.later) cell) in
      omega (arith, wrote_back mo.before cell side (checker side cell e) mo.so_far)
    where
      le_append : (a b : List Event) (cell : ℕ) → took chip a cell ≤ took chip (a ++ b) cell
      le_append a b cell = let e = took_append chip a b cell in omega arith

      wrote_back : (before : List Event) (cell : ℕ) (side : Side) → cell_of z side ≡ Some cell
          → moves_of z (moves chip before) ≡ moves_of z (moves chip done) → wrote chip before cell
          ≤ wrote chip done cell
      wrote_back before cell side here e =
          wrote_less chip before done z cell side s.legal here
          (prefix_same (moves_of z (moves chip before)) (moves_of z (moves chip done)) e)

  -- the move's clock
  cause : (x : ℕ) → steps_in chip (done ++ event ∷ []) z ≤ steps_in chip run z
      → cause_of m.asked (clocks chip done) x ≤ steps_in chip run x
  cause x h =
      cause_below m.asked (clocks chip done) x (steps_in chip run x)
      (λ side cell e. s.causes.posts cell x (posts_made side cell e h))
      (λ side cell e. s.causes.takes cell x (takes_made side cell e h))

  behind_cause : (x : ℕ) → cause_of m.asked (clocks chip done) x ≤ steps_in chip done x
  behind_cause x =
      cause_below m.asked (clocks chip done) x (steps_in chip done x)
      (λ side cell e. s.behind.posts cell x) (λ side cell e. s.behind.takes cell x)

  more : (x a : ℕ) → x ≡ z → a ≤ steps_in chip done x → steps_in chip (done ++ event ∷ []) z
      ≤ steps_in chip run z → a + 1 ≤ steps_in chip run x
  more x a e a_below h =
      let below : a ≤ steps_in chip done z = subst (λ y. a ≤ steps_in chip done y) e a_below in
      let grown = steps_more chip done event m s.one.made in
      let it : a + 1 ≤ steps_in chip run z = omega arith in
      subst (λ y. a + 1 ≤ steps_in chip run y) (sym e) it

  its_clock : (x : ℕ) → steps_in chip (done ++ event ∷ []) z ≤ steps_in chip run z
      → clock_of m (clocks chip done) x ≤ steps_in chip run x
  its_clock x h =
      let old : steps_in chip done z ≤ steps_in chip run z =
      le_both _ _ _ (steps_earlier chip done (event ∷ []) z) h in
      clock_below m (clocks chip done) x (steps_in chip run x) (s.causes.nodes z x old) (cause x h)
      (λ e. (more x _ e (s.behind.nodes z x) h, more x _ e (behind_cause x) h))

  -- if the run has the post, its writer made it
  post_made : (side : Side) (cell word : ℕ) → m.asked ≡ Post side cell word
      → wrote chip (done ++ event ∷ []) cell ≤ wrote chip run cell
      → steps_in chip (done ++ event ∷ []) z ≤ steps_in chip run z
  post_made side cell word e h =
      by (cases_lt (steps_in chip run z) (steps_in chip (done ++ event ∷ []) z))
    where
      by : (steps_in chip run z < steps_in chip (done ++ event ∷ []) z)
          ⊎ (steps_in chip (done ++ event ∷ []) z ≤ steps_in chip run z)
          → steps_in chip (done ++ event ∷ []) z ≤ steps_in chip run z
      by (inr g) = g
      by (inl g) =
          let grown = steps_more chip done event m s.one.made in
          let shorter : steps_in chip run z ≤ steps_in chip done z = omega arith in
          let less : wrote chip run cell ≤ wrote chip done cell =
          wrote_less chip run done z cell side s.legal (writer side cell word e)
          (shorter_first _ _ (agree_sym _ _ (earlier z)) shorter) in
          let next = wrote_next chip done event m side cell word s.one.made e in
          absurd (omega arith)

  take_made : (side : Side) (cell : ℕ) → m.asked ≡ Take side cell
      → took chip (done ++ event ∷ []) cell ≤ took chip run cell
      → steps_in chip (done ++ event ∷ []) z ≤ steps_in chip run z
  take_made side cell e h =
      by (cases_lt (steps_in chip run z) (steps_in chip (done ++ event ∷ []) z))
    where
      by : (steps_in chip run z < steps_in chip (done ++ event ∷ []) z)
          ⊎ (steps_in chip (done ++ event ∷ []) z ≤ steps_in chip run z)
          → steps_in chip (done ++ event ∷ []) z ≤ steps_in chip run z
      by (inr g) = g
      by (inl g) =
          let grown = steps_more chip done event m s.one.made in
          let shorter : steps_in chip run z ≤ steps_in chip done z = omega arith in
          let less : took chip run cell ≤ took chip done cell =
          took_less chip run done z cell side s.legal named (reader side cell e)
          (shorter_first _ _ (agree_sym _ _ (earlier z)) shorter) in
          let next = took_more side cell e in
          absurd (omega arith)

  wrote_earlier : (cell : ℕ) → wrote chip done cell ≤ wrote chip (done ++ event ∷ []) cell
  wrote_earlier cell = let e = wrote_append chip done (event ∷ []) cell in omega arith

  took_earlier : (cell : ℕ) → took chip done cell ≤ took chip (done ++ event ∷ []) cell
  took_earlier cell = let e = took_append chip done (event ∷ []) cell in omega arith

  causes_one : HasCauses chip run (done ++ event ∷ [])
  causes_one = record {
    nodes =
        λ name x h. subst (λ cs. cs.nodes name x ≤ steps_in chip run x)
        (sym (clocks_one chip done event m s.one.made))
        (with_below z (clock_of m (clocks chip done)) (clocks chip done).nodes name x
        (steps_in chip run x)
        (λ e. its_clock x (subst (λ n. steps_in chip (done ++ event ∷ []) n ≤ steps_in chip run n) e
        h))
        (s.causes.nodes name x (le_both _ _ _ (steps_earlier chip done (event ∷ []) name) h)));
    posts =
        λ cell x h. subst (λ cs. cs.posts cell x ≤ steps_in chip run x)
        (sym (clocks_one chip done event m s.one.made))
        (post_below m.asked (clock_of m (clocks chip done)) (clocks chip done).posts cell x
        (steps_in chip run x)
        (λ side word e. its_clock x (post_made side cell word e h))
        (s.causes.posts cell x (le_both _ _ _ (wrote_earlier cell) h)));
    takes =
        λ cell x h. subst (λ cs. cs.takes cell x ≤ steps_in chip run x)
        (sym (clocks_one chip done event m s.one.made))
        (take_below m.asked (clock_of m (clocks chip done)) (clocks chip done).takes cell x
        (steps_in chip run x)
        (λ side e. its_clock x (take_made side cell e h))
        (s.causes.takes cell x (le_both _ _ _ (took_earlier cell) h)));
  }

causes_none : (chip : Chip) (run done : List Event) (event : Event) → move_in (ran chip done) event
    ≡ [] → HasCauses chip run done → HasCauses chip run (done ++ event ∷ [])
causes_none chip run done event none causes = record {
  nodes =
      λ name x h. subst (λ cs. cs.nodes name x ≤ steps_in chip run x) (sym same)
      (causes.nodes name x (le_both _ _ _ (steps_earlier chip done (event ∷ []) name) h));
  posts =
      λ cell x h. subst (λ cs. cs.posts cell x ≤ steps_in chip run x) (sym same)
      (causes.posts cell x (let e = wrote_append chip done (event ∷ []) cell in omega arith));
  takes =
      λ cell x h. subst (λ cs. cs.takes cell x ≤ steps_in chip run x) (sym same)
      (causes.takes cell x (let e = took_append chip done (event ∷ []) cell in omega arith));
}
  where
    same : clocks chip (done ++ event ∷ []) ≡ clocks chip done
    same = clocks_none chip done event none

-- What is known of the clocks of the other run at a moment of it.
record SoFar (chip : Chip) (run done : List Event) : Type 0 where
  behind : IsBehind chip done
  causes : HasCauses chip run done

next : (chip : Chip) (run done : List Event) (event : Event) → IsLegal chip
    → MovesAgree chip (done ++ event ∷ []) run → SoFar chip run done
    → SoFar chip run (done ++ event ∷ [])
next chip run done event legal agree so = by (one_or_none (ran chip done) event)
  where
    move_next : One (ran chip done) event → NextMove chip run done event
    move_next o = record {
      one = o;
      legal = legal;
      agree = agree;
      behind = so.behind;
      causes = so.causes;
    }

    by : (move_in (ran chip done) event ≡ []) ⊎ One (ran chip done) event
        → SoFar chip run (done ++ event ∷ [])
    by (inl none) = record {
      behind = behind_none chip done event none so.behind;
      causes = causes_none chip run done event none so.causes;
    }
    by (inr o) = record {
      behind = behind_one chip done event o so.behind;
      causes = causes_one chip run done event (move_next o);
    }

on : (chip : Chip) (run done more : List Event) → IsLegal chip → MovesAgree chip (done ++ more) run
    → SoFar chip run done → SoFar chip run (done ++ more)
on chip run done [] legal agree so = subst (SoFar chip run) (sym (append-nil done)) so
on chip run done (event ∷ more) legal agree so =
    let same : (done ++ event ∷ []) ++ more ≡ done ++ event ∷ more =
    append_assoc done (event ∷ []) more in
    let agree' : MovesAgree chip ((done ++ event ∷ []) ++ more) run =
    subst (λ es. MovesAgree chip es run) (sym same) agree in
    subst (SoFar chip run) same (on chip run (done ++ event ∷ []) more legal agree'
    (next chip run done event legal (agree_earlier chip (done ++ event ∷ []) more run agree') so))

so_far : (chip : Chip) (run done : List Event) → IsLegal chip → MovesAgree chip done run
    → SoFar chip run done
so_far chip run done legal agree = on chip run [] done legal agree (record {
  behind =
      record { nodes = λ name x. zero-le; posts = λ cell x. zero-le; takes = λ cell x. zero-le };
  causes =
      record {
        nodes = λ name x h. zero-le;
        posts = λ cell x h. zero-le;
        takes = λ cell x h. zero-le;
      };
})

-- so at each moment of the other run
pub has_causes : (chip : Chip) (run done : List Event) → IsLegal chip → MovesAgree chip done run
    → HasCauses chip run done
has_causes chip run done legal agree = (so_far chip run done legal agree).causes

pub is_behind : (chip : Chip) (done : List Event) → IsLegal chip → IsBehind chip done
is_behind chip done legal =
    (so_far chip done done legal (λ n. inl (prefix_self (moves_of n (moves chip done))))).behind
