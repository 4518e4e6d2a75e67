-- One more round of a run has no race if the rounds before it have none.
use Rattle.std.proofs.Common.{◌≡◌, ℕ, ◌+◌, ◌≤◌, ◌==◌, Bool, true, false, List, [], ◌∷◌, ◌++◌, ◌⊎◌, inl, inr, length, option_map, refl, sym, ap, ◌∙◌, subst, zero-le, append_assoc, length-append, arith}
use Rattle.std.specs.Prelude.{if◌then◌else◌, max}
use Rattle.std.proofs.lemmas.Bool.{eq-eqb}
use Rattle.std.proofs.lemmas.Option.{same_Some}
use Rattle.std.proofs.lemmas.List.{append_cancel_left}
use Rattle.ga_node.specs.Need.{need_of, takes_at}
use Rattle.ga_node.specs.declared.need.Need.TheVariants as need
use Rattle.ga_chip.specs.Chip.{Chip, part_of, pending_in}
use Rattle.ga_chip.specs.Run.{Event, Move, move_in, moves, moves_of, ran}
use Rattle.ga_chip.specs.Legal.{IsLegal}
use Rattle.ga_chip.proofs.Kept.{legal_ran}
use Rattle.ga_chip.proofs.Moments.{Makes, makes_event}
use Rattle.ga_chip.proofs.Runs.{moves-append, moves_of-append, ran-append}
use Rattle.ga_race.specs.Clocks.{Clock, Clocks, cause_of, clock_of, clocks, clocks_on, joined, no_clocks, post_clocks, steps_in, ticked}
use Rattle.ga_race.specs.Races.{HasNoRace, IsOrdered, LeavesOut, Posts}
use Rattle.ga_race.specs.Spins.{IsSpinning}
use Rattle.ga_race.specs.Rounds.{IsAlike, unnumbered}
use Rattle.ga_race.proofs.Prefixes.{moves_next, next_of}
use Rattle.ga_race.proofs.Causes.{clocks_on-append, clocks_one}
use Rattle.ga_node.proofs.Uncounted.{spins_own}
use Rattle.ga_race.proofs.Cuts.{Cut, cut}
use Rattle.ga_race.proofs.Alike.{AreTries, IsCounting, RunAlike, counting_before, need_alike, need_wants, run_alike, tries_front, tries_join}
use Rattle.ga_race.proofs.Shifted.{grows_on, shifted_from}

-- an event that is the same move at two chips posts into the same cell
abbrev posts_alike : (one two : Chip) (event : Event) (cell : ℕ)
    → move_in one event ≡ move_in two event → Posts two event cell → Posts one event cell
posts_alike one two event cell e p =
    record { move = p.move; made = e ∙ p.made; side = p.side; word = p.word; asked = p.asked }

-- and it leaves out the same cell, if the chips are alike
leaves_alike : (one two : Chip) (event : Event) (name cell : ℕ) → IsCounting one → IsCounting two
    → IsAlike one two → move_in one event ≡ move_in two event → LeavesOut two event name cell
    → LeavesOut one event name cell
leaves_alike one two event name cell counts counts' alike e l = record {
  part = a.part;
  there = a.there;
  move = l.move;
  made = made;
  taken = l.taken;
  picked = l.picked;
  left_out = l.left_out;
  apart = l.apart;
  among = by (alike.nodes name);
  reads = l.reads;
}
  where
    made : moves_of name (move_in one event) ≡ l.move ∷ []
    made = ap (moves_of name) e ∙ l.made

    a : Makes one name l.move
    a = makes_event one event name l.move made

    by : (option_map unnumbered (part_of one name) ≡ option_map unnumbered (part_of two name))
        ⊎ (IsSpinning one name × IsSpinning two name)
        → takes_at l.left_out (need_of a.part.state) ≡ true
    by (inl f) =
        let same : unnumbered a.part ≡ unnumbered l.part =
        same_Some (unnumbered a.part) (unnumbered l.part)
        (sym (ap (option_map unnumbered) a.there) ∙ f ∙ ap (option_map unnumbered) l.there) in
        ap (takes_at l.left_out)
        (need_alike a.part l.part same (counts name a.part a.there)
        (counts' name l.part l.there)) ∙ l.among
    by (inr (s, t)) =
        let own : need_of l.part.state ≡ need.Own =
        ap (λ p. need_of p.state) (same_Some l.part t.part (sym l.there ∙ t.there))
        ∙ need_wants t.part.state (counts' name t.part t.there)
        ∙ spins_own t.part.state t.spins in
        let none : false ≡ true = sym (ap (takes_at l.left_out) own) ∙ l.among in
        cc

-- a run's clocks follow from those of a prefix of it
clocks_more : (chip : Chip) (done more : List Event)
    → clocks chip (done ++ more) ≡ clocks_on (clocks chip done) (moves (ran chip done) more)
clocks_more chip done more = ap (clocks_on no_clocks) (moves-append chip done more)
    ∙ clocks_on-append no_clocks (moves chip done) (moves (ran chip done) more)

-- a run makes the steps of its prefix, and the steps behind it
pub steps_more : (chip : Chip) (done more : List Event) (name : ℕ)
    → steps_in chip (done ++ more) name ≡ steps_in chip done name
    + length (moves_of name (moves (ran chip done) more))
steps_more chip done more name = ap (λ ms. length (moves_of name ms)) (moves-append chip done more)
    ∙ ap (λ l. length l) (moves_of-append name (moves chip done) (moves (ran chip done) more))
    ∙ length-append (moves_of name (moves chip done)) (moves_of name (moves (ran chip done) more))

-- the steps up to an event follow from those of a prefix
steps_upto : (chip : Chip) (base us : List Event) (event : Event) (name : ℕ)
    → steps_in chip ((base ++ us) ++ event ∷ []) name ≡ steps_in chip base name
    + length (moves_of name (moves (ran chip base) (us ++ event ∷ [])))
steps_upto chip base us event name =
    ap (λ es. steps_in chip es name) (append_assoc base us (event ∷ []))
    ∙ steps_more chip base (us ++ event ∷ []) name

-- the clocks up to a post follow from those of a prefix
clocks_upto : (chip : Chip) (base us mid : List Event) (event post : Event)
    → clocks chip (((base ++ us) ++ event ∷ mid) ++ post ∷ [])
    ≡ clocks_on (clocks chip base) (moves (ran chip base) ((us ++ event ∷ mid) ++ post ∷ []))
clocks_upto chip base us mid event post =
    ap (λ es. clocks chip (es ++ post ∷ [])) (append_assoc base us (event ∷ mid))
    ∙ ap (clocks chip) (append_assoc base (us ++ event ∷ mid) (post ∷ []))
    ∙ clocks_more chip base ((us ++ event ∷ mid) ++ post ∷ [])

-- a post sets the clock of its cell to its own clock
post_clock : (chip : Chip) (done : List Event) (post : Event) (cell x : ℕ)
    (p : Posts (ran chip done) post cell)
    → (clocks chip (done ++ post ∷ [])).posts cell x ≡ clock_of p.move (clocks chip done) x
post_clock chip done post cell x p =
    ap (λ (cs : Clocks). cs.posts cell x) (clocks_one chip done post p.move p.made)
    ∙ ap (λ q. post_clocks q (clock_of p.move (clocks chip done)) (clocks chip done).posts cell x)
    p.asked
    ∙ ap (λ b. (if b then clock_of p.move (clocks chip done) else (clocks chip done).posts cell) x)
    (eq-eqb cell cell refl)

-- a clock is no smaller if its causes' clocks are no smaller
ticked_grows : (node x : ℕ) (a b c d : Clock) → a x ≤ b x → c x ≤ d x
    → ticked node (joined a c) x ≤ ticked node (joined b d) x
ticked_grows node x a b c d h g = by (x == node)
  where
    by : (t : Bool) → (if t then max (a x) (c x) + 1 else max (a x) (c x))
        ≤ (if t then max (b x) (d x) + 1 else max (b x) (d x))
    by true = omega arith
    by false = omega arith

-- A post's clock is no smaller if the same post comes later.
posts_grow : (chip : Chip) (done more : List Event) (post : Event) (cell x : ℕ)
    (p : Posts (ran chip (done ++ more)) post cell)
    → move_in (ran chip done) post ≡ move_in (ran chip (done ++ more)) post
    → (clocks chip (done ++ post ∷ [])).posts cell x
    ≤ (clocks chip ((done ++ more) ++ post ∷ [])).posts cell x
posts_grow chip done more post cell x p same =
    let first : (clocks chip (done ++ post ∷ [])).posts cell x
    ≡ clock_of p.move (clocks chip done) x =
    post_clock chip done post cell x
    (posts_alike (ran chip done) (ran chip (done ++ more)) post cell same p) in
    let last = post_clock chip (done ++ more) post cell x p in
    let grown : (clocks chip done).nodes p.move.node x
    ≤ (clocks chip (done ++ more)).nodes p.move.node x =
    subst (λ (cs : Clocks). (clocks chip done).nodes p.move.node x ≤ cs.nodes p.move.node x)
    (sym (clocks_more chip done more))
    (grows_on (clocks chip done) (moves (ran chip done) more) p.move.node x) in
    let cause : cause_of p.move.asked (clocks chip done) x
    ≤ cause_of p.move.asked (clocks chip (done ++ more)) x =
    subst (λ q. cause_of q (clocks chip done) x ≤ cause_of q (clocks chip (done ++ more)) x)
    (sym p.asked) zero-le in
    let it : clock_of p.move (clocks chip done) x ≤ clock_of p.move (clocks chip (done ++ more)) x =
    ticked_grows p.move.node x ((clocks chip done).nodes p.move.node)
    ((clocks chip (done ++ more)).nodes p.move.node) (cause_of p.move.asked (clocks chip done))
    (cause_of p.move.asked (clocks chip (done ++ more))) grown cause in
    omega arith

-- A round leads from a moment of a run to one that is alike, and two rounds from there have no
-- race. A take in the last two rounds, and each post behind it, were in the two rounds before, and
-- their clocks were smaller by the steps of a round. If the take is earlier, a post in the last
-- round was in the round before, and its clock was no larger.
module _ (chip : Chip) (front round : List Event) (legal : IsLegal chip) (tries : AreTries round)
    (alike : IsAlike (ran chip front) (ran chip (front ++ round)))
    (counts : IsCounting (ran chip ((front ++ round) ++ (round ++ round))))
    (race : HasNoRace chip (front ++ (round ++ round))) where
  -- no node has made as many steps as are counted at a moment of the run
  counts_at : (done more : List Event) → (front ++ round) ++ (round ++ round) ≡ done ++ more
      → IsCounting (ran chip done)
  counts_at done more e =
      counting_before (ran chip done) more (legal_ran chip done legal)
      (subst IsCounting (ap (ran chip) e ∙ ran-append chip done more) counts)

  -- nor at a moment of two rounds from the first moment
  counts_first : (es more : List Event) → round ++ round ≡ es ++ more
      → IsCounting (ran chip (front ++ es))
  counts_first es more e = counts_at (front ++ es) (more ++ round)
      (append_assoc front round (round ++ round)
      ∙ ap (λ l. front ++ l) (sym (append_assoc round round round))
      ∙ ap (λ l. front ++ (l ++ round)) e ∙ ap (λ l. front ++ l) (append_assoc es more round)
      ∙ sym (append_assoc front es (more ++ round)))

  -- nor at a moment of two rounds from the second
  counts_last : (es more : List Event) → round ++ round ≡ es ++ more
      → IsCounting (ran chip ((front ++ round) ++ es))
  counts_last es more e =
      counts_at ((front ++ round) ++ es) more
      (ap (λ l. (front ++ round) ++ l) e ∙ sym (append_assoc (front ++ round) es more))

  -- two rounds make the same moves from both moments
  along : (es more : List Event) → round ++ round ≡ es ++ more
      → RunAlike (ran chip front) (ran chip (front ++ round)) es
  along es more e = run_alike (ran chip front) (ran chip (front ++ round)) es
      (tries_front es more (subst AreTries e (tries_join round round tries tries)))
      (legal_ran chip front legal) (legal_ran chip (front ++ round) legal)
      (subst IsCounting (ran-append chip front es) (counts_first es more e))
      (subst IsCounting (ran-append chip (front ++ round) es) (counts_last es more e)) alike

  -- and lead to chips that are alike
  alike_at : (es more : List Event) → round ++ round ≡ es ++ more
      → IsAlike (ran chip (front ++ es)) (ran chip ((front ++ round) ++ es))
  alike_at es more e =
      subst (λ c. IsAlike c (ran chip ((front ++ round) ++ es))) (sym (ran-append chip front es))
      (subst (IsAlike (ran (ran chip front) es)) (sym (ran-append chip (front ++ round) es))
      (along es more e).alike)

  -- each of their events is the same move from both
  same_move : (es more : List Event) (event : Event) → round ++ round ≡ es ++ event ∷ more
      → move_in (ran chip (front ++ es)) event ≡ move_in (ran chip ((front ++ round) ++ es)) event
  same_move es more event e =
      let here : List Move = move_in (ran (ran chip front) es) event in
      let there : List Move = move_in (ran (ran chip (front ++ round)) es) event in
      let same : here ≡ there = append_cancel_left (moves (ran chip front) es) here there
      (sym (moves_next (ran chip front) es event)
      ∙ (along (es ++ event ∷ []) more (e ∙ sym (append_assoc es (event ∷ []) more))).moves
      ∙ moves_next (ran chip (front ++ round)) es event
      ∙ ap (λ l. l ++ there) (sym (along es (event ∷ more) e).moves)) in
      ap (λ c. move_in c event) (ran-append chip front es) ∙ same
      ∙ sym (ap (λ c. move_in c event) (ran-append chip (front ++ round) es))

  -- what comes behind a step from the first moment comes behind it from the second
  shift : (d : ℕ) (ms : List Move) (name cell : ℕ) → 1 ≤ d
      → steps_in chip front name + d ≤ (clocks_on (clocks chip front) ms).posts cell name
      → steps_in chip (front ++ round) name + d
      ≤ (clocks_on (clocks chip (front ++ round)) ms).posts cell name
  shift d ms name cell some h =
      let first = (shifted_from chip front ms legal).posts cell name in
      let last = (shifted_from chip (front ++ round) ms legal).posts cell name in
      let upper = first.upper in
      let short : 1 ≤ (clocks_on no_clocks ms).posts cell name = omega arith in
      let lower = last.lower short in
      omega arith

  -- a take in the last two rounds has no race
  later_take : (us later : List Event) (event : Event) (name cell : ℕ)
      → round ++ round ≡ us ++ event ∷ later
      → LeavesOut (ran chip ((front ++ round) ++ us)) event name cell
      → IsOrdered chip ((front ++ round) ++ us) event later name cell
  later_take us later event name cell e l =
      record {
        empty =
            ap (λ cells. pending_in cells cell) (sym (alike_at us (event ∷ later) e).cells)
            ∙ old.empty;
        comes_after = behind;
      }
    where
      l' : LeavesOut (ran chip (front ++ us)) event name cell
      l' = leaves_alike (ran chip (front ++ us)) (ran chip ((front ++ round) ++ us)) event name cell
          (counts_first us (event ∷ later) e) (counts_last us (event ∷ later) e)
          (alike_at us (event ∷ later) e) (same_move us later event e) l

      old : IsOrdered chip (front ++ us) event later name cell
      old = race (front ++ us) later event name cell
          (ap (λ es. front ++ es) e ∙ sym (append_assoc front us (event ∷ later))) l'

      behind : (mid rest : List Event) (post : Event) → later ≡ mid ++ post ∷ rest
          → Posts (ran chip (((front ++ round) ++ us) ++ event ∷ mid)) post cell
          → steps_in chip (((front ++ round) ++ us) ++ event ∷ []) name
          ≤ (clocks chip ((((front ++ round) ++ us) ++ event ∷ mid) ++ post ∷ [])).posts cell name
      behind mid rest post f p =
          let at : round ++ round ≡ (us ++ event ∷ mid) ++ post ∷ rest = e
          ∙ ap (λ es. us ++ event ∷ es) f ∙ sym (append_assoc us (event ∷ mid) (post ∷ rest)) in
          let at' : round ++ round ≡ ((us ++ event ∷ mid) ++ post ∷ []) ++ rest = at
          ∙ sym (append_assoc (us ++ event ∷ mid) (post ∷ []) rest) in
          let now : round ++ round ≡ (us ++ event ∷ []) ++ later = e
          ∙ sym (append_assoc us (event ∷ []) later) in
          let p' : Posts (ran chip (front ++ (us ++ event ∷ mid))) post cell =
          posts_alike (ran chip (front ++ (us ++ event ∷ mid)))
          (ran chip ((front ++ round) ++ (us ++ event ∷ mid))) post cell
          (same_move (us ++ event ∷ mid) rest post at)
          (subst (λ es. Posts (ran chip es) post cell)
          (append_assoc (front ++ round) us (event ∷ mid)) p) in
          let h = old.comes_after mid rest post f
          (subst (λ es. Posts (ran chip es) post cell)
          (sym (append_assoc front us (event ∷ mid))) p') in
          let made : List Move = moves_of name (moves (ran chip front) (us ++ event ∷ [])) in
          let ms : List Move = moves (ran chip front) ((us ++ event ∷ mid) ++ post ∷ []) in
          let e1 = steps_upto chip front us event name in
          let e2 : (clocks chip (((front ++ us) ++ event ∷ mid) ++ post ∷ [])).posts cell name
          ≡ (clocks_on (clocks chip front) ms).posts cell name =
          ap (λ (cs : Clocks). cs.posts cell name) (clocks_upto chip front us mid event post) in
          let e3 : steps_in chip (((front ++ round) ++ us) ++ event ∷ []) name
          ≡ steps_in chip (front ++ round) name + length made =
          steps_upto chip (front ++ round) us event name
          ∙ ap (λ l. steps_in chip (front ++ round) name + length (moves_of name l))
          (sym (along (us ++ event ∷ []) later now).moves) in
          let e4 : (clocks chip ((((front ++ round) ++ us) ++ event ∷ mid) ++ post ∷ [])).posts cell
          name ≡ (clocks_on (clocks chip (front ++ round)) ms).posts cell name =
          ap (λ (cs : Clocks). cs.posts cell name)
          (clocks_upto chip (front ++ round) us mid event post)
          ∙ ap (λ l. (clocks_on (clocks chip (front ++ round)) l).posts cell name)
          (sym (along ((us ++ event ∷ mid) ++ post ∷ []) rest at').moves) in
          let last : length made ≡ length (moves_of name (moves (ran chip front) us)) + 1 =
          ap (λ l. length l)
          (next_of (ran chip front) us event name
          ∙ ap (λ c. moves_of name (moves (ran chip front) us)
          ++ moves_of name (move_in c event)) (sym (ran-append chip front us))
          ∙ ap (λ l. moves_of name (moves (ran chip front) us) ++ l) l'.made)
          ∙ length-append (moves_of name (moves (ran chip front) us)) (l'.move ∷ []) in
          let some : 1 ≤ length made = omega arith in
          let before : steps_in chip front name + length made
          ≤ (clocks_on (clocks chip front) ms).posts cell name = omega arith in
          let it = shift (length made) ms name cell some before in
          omega arith

  -- an earlier take has no race
  old_take : (before rest : List Event) (event : Event) (name cell : ℕ)
      → front ++ round ≡ before ++ event ∷ rest → LeavesOut (ran chip before) event name cell
      → IsOrdered chip before event (rest ++ (round ++ round)) name cell
  old_take before rest event name cell e l =
      record {
        empty = old.empty;
        comes_after =
            λ mid left post f p. behind mid left post p
            (cut (rest ++ round) round mid left post (append_assoc rest round round ∙ f));
      }
    where
      old : IsOrdered chip before event (rest ++ round) name cell
      old = race before (rest ++ round) event name cell
          (sym (append_assoc front round round) ∙ ap (λ es. es ++ round) e
          ∙ append_assoc before (event ∷ rest) round) l

      behind : (mid left : List Event) (post : Event)
          → Posts (ran chip (before ++ event ∷ mid)) post cell
          → Cut (rest ++ round) round mid post left
          → steps_in chip (before ++ event ∷ []) name
          ≤ (clocks chip ((before ++ event ∷ mid) ++ post ∷ [])).posts cell name
      behind mid left post p (inl (others, f, g)) = old.comes_after mid others post f p
      behind mid left post p (inr (ws, f, g)) =
          let first : List Event = front ++ (round ++ ws) in
          let last : List Event = (front ++ round) ++ (round ++ ws) in
          let first_is : before ++ event ∷ (rest ++ ws) ≡ first =
          sym (append_assoc before (event ∷ rest) ws) ∙ ap (λ es. es ++ ws) (sym e)
          ∙ append_assoc front round ws in
          let last_is : before ++ event ∷ mid ≡ last =
          ap (λ es. before ++ event ∷ es) (f ∙ append_assoc rest round ws)
          ∙ sym (append_assoc before (event ∷ rest) (round ++ ws))
          ∙ ap (λ es. es ++ (round ++ ws)) (sym e) in
          let longer : first ++ (post ∷ (left ++ ws)) ≡ last =
          ap (λ es. es ++ (post ∷ (left ++ ws))) (sym (append_assoc front round ws))
          ∙ append_assoc (front ++ round) ws (post ∷ (left ++ ws))
          ∙ ap (λ es. (front ++ round) ++ es)
          (sym (append_assoc ws (post ∷ left) ws) ∙ ap (λ es. es ++ ws) (sym g)) in
          let at : round ++ round ≡ (round ++ ws) ++ post ∷ left = ap (λ es. round ++ es) g
          ∙ sym (append_assoc round ws (post ∷ left)) in
          let same : move_in (ran chip first) post ≡ move_in (ran chip last) post =
          same_move (round ++ ws) left post at in
          let p_last : Posts (ran chip last) post cell =
          subst (λ es. Posts (ran chip es) post cell) last_is p in
          let p_first : Posts (ran chip first) post cell =
          posts_alike (ran chip first) (ran chip last) post cell same p_last in
          let in_old : rest ++ round ≡ (rest ++ ws) ++ post ∷ left = ap (λ es. rest ++ es) g
          ∙ sym (append_assoc rest ws (post ∷ left)) in
          let h : steps_in chip (before ++ event ∷ []) name
          ≤ (clocks chip ((before ++ event ∷ (rest ++ ws)) ++ post ∷ [])).posts cell name =
          old.comes_after (rest ++ ws) left post in_old
          (subst (λ es. Posts (ran chip es) post cell) (sym first_is) p_first) in
          let h' : steps_in chip (before ++ event ∷ []) name
          ≤ (clocks chip (first ++ post ∷ [])).posts cell name =
          subst (λ es. steps_in chip (before ++ event ∷ []) name
          ≤ (clocks chip (es ++ post ∷ [])).posts cell name) first_is h in
          let grown : (clocks chip (first ++ post ∷ [])).posts cell name
          ≤ (clocks chip (last ++ post ∷ [])).posts cell name =
          subst (λ es. (clocks chip (first ++ post ∷ [])).posts cell name
          ≤ (clocks chip (es ++ post ∷ [])).posts cell name) longer
          (posts_grow chip first (post ∷ (left ++ ws)) post cell name
          (subst (λ es. Posts (ran chip es) post cell) (sym longer) p_last)
          (same ∙ ap (λ es. move_in (ran chip es) post) (sym longer))) in
          subst (λ es. steps_in chip (before ++ event ∷ []) name
          ≤ (clocks chip (es ++ post ∷ [])).posts cell name) (sym last_is) (omega arith)

  -- So the run with one more round has no race.
  pub round_more : HasNoRace chip ((front ++ round) ++ (round ++ round))
  round_more before later event name cell e l =
      by (cut (front ++ round) (round ++ round) before later event e)
    where
      by : Cut (front ++ round) (round ++ round) before event later
          → IsOrdered chip before event later name cell
      by (inl (rest, f, g)) =
          subst (λ es. IsOrdered chip before event es name cell) (sym g)
          (old_take before rest event name cell f l)
      by (inr (us, f, g)) =
          subst (λ es. IsOrdered chip es event later name cell) (sym f)
          (later_take us later event name cell g
          (subst (λ es. LeavesOut (ran chip es) event name cell) f l))

  -- The next moment is alike again.
  pub alike_more : IsAlike (ran chip (front ++ round)) (ran chip ((front ++ round) ++ round))
  alike_more = alike_at round round refl
