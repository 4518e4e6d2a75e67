-- What tries leave of a node, and what shows that a run comes back to a chip.
use Rattle.std.proofs.Common.{◌≡◌, ℕ, suc, ◌+◌, ◌<◌, ◌==◌, Bool, true, false, List, [], ◌∷◌, ◌⊎◌, inl, inr, length, get_or, Option, Some, None, option_map, refl, sym, ap, ap₂, ◌∙◌, subst, arith}
use Rattle.std.specs.Prelude.{◌%◌, ◌/◌, ◌^◌, ◌-◌, ◌&&◌, ◌||◌}
use Rattle.std.specs.List.{list_any}
use Rattle.std.specs.Option.{option_map_or}
use Rattle.std.proofs.lemmas.Bool.{cases_eq}
use Rattle.std.proofs.lemmas.Option.{same_Some, slice_get_within}
use Rattle.ga_place.specs.Cell.{index_of, name_at}
use Rattle.ga_place.specs.declared.side.Side.{Side}
use Rattle.ga_place.proofs.Cells.{name_back}
use Rattle.ga_node.proofs.Rows.{step_steps}
use Rattle.ga_chip.specs.Part.{Part, Asks, Nothing, Own, Feed, Post, Check, Take, after, after_asked, asks, counted, rest_of, stepped}
use Rattle.ga_chip.specs.Chip.{Chip, found_by, part_of, state_of}
use Rattle.ga_chip.specs.Run.{Event, Try, SetBreak, ClearBreak, PassBreak, Piece, happened, ran, turns_of, words_left}
use Rattle.ga_chip.specs.Stream.{left_of}
use Rattle.ga_chip.specs.Legal.{IsLegal}
use Rattle.ga_chip.proofs.Kept.{legal_kept, legal_ran}
use Rattle.ga_chip.proofs.Runs.{part_first, ran-append}
use Rattle.ga_race.specs.Rounds.{ComesBack, HasNoBreaks, IsAlike, unnumbered}
use Rattle.ga_race.specs.Spins.{IsSpinning}
use Rattle.ga_node.specs.Spins.{Spins, uncounted}
use Rattle.ga_race.specs.inner.Ending.{AreSpinning, IsAgain, IsKept, IsSearch}
use Rattle.ga_race.specs.declared.ending.KeptChip.{KeptChip}
use Rattle.ga_race.specs.declared.ending.RoundSearch.{RoundSearch}
use Rattle.ga_race.proofs.Alike.{AreTries}
use Rattle.ga_race.proofs.EndingAll.{unbroken_part}
use Rattle.ga_race.proofs.Fair.{breaks_kept}
use Rattle.ga_race.proofs.Longer.{own_tried, spent_asks, spins_else, spins_here}
use Rattle.ga_observe.proofs.Tried.{no_node, part_else, part_here, tried_leaves}
use Rattle.ga_race.proofs.TurnLists.{some_turns, tries_of_turns, turns_split, turns_tries}

-- A node's part later in a run of tries: its stream is the same or has fewer words, and it is the
-- same or has made steps.
record Later (before now : Part) : Type 0 where
  breaks : now.breaks ≡ before.breaks
  opened : now.opened ≡ before.opened
  stream : (now.stream ≡ before.stream)
      ⊎ (length (words_left now.stream) < length (words_left before.stream))
  part : (now ≡ before) ⊎ (before.state.steps < now.state.steps)

later_self : (part : Part) → Later part part
later_self part = record { breaks = refl; opened = refl; stream = inl refl; part = inl refl }

-- the same, or less
less_both : {A : Type 0} (size : A → ℕ) (x y z : A) → (y ≡ x) ⊎ (size y < size x)
    → (z ≡ y) ⊎ (size z < size y) → (z ≡ x) ⊎ (size z < size x)
less_both size x y z (inl e) (inl f) = inl (f ∙ e)
less_both size x y z (inl e) (inr g) = inr (subst (λ a. size z < size a) e g)
less_both size x y z (inr g) (inl f) = inr (subst (λ a. size a < size x) (sym f) g)
less_both size x y z (inr g) (inr h) = inr (omega arith)

-- the same, or more
more_both : {A : Type 0} (size : A → ℕ) (x y z : A) → (y ≡ x) ⊎ (size x < size y)
    → (z ≡ y) ⊎ (size y < size z) → (z ≡ x) ⊎ (size x < size z)
more_both size x y z (inl e) (inl f) = inl (f ∙ e)
more_both size x y z (inl e) (inr g) = inr (subst (λ a. size a < size z) e g)
more_both size x y z (inr g) (inl f) = inr (subst (λ a. size x < size a) (sym f) g)
more_both size x y z (inr g) (inr h) = inr (omega arith)

later_both : (one two three : Part) → Later one two → Later two three → Later one three
later_both one two three l m = record {
  breaks = m.breaks ∙ l.breaks;
  opened = m.opened ∙ l.opened;
  stream = less_both (λ s. length (words_left s)) one.stream two.stream three.stream l.stream
      m.stream;
  part = more_both (λ (p : Part). p.state.steps) one two three l.part m.part;
}

-- a step is made
stepped_more : (word : Option ℕ) (part : Part) (n : ℕ) → n ≡ part.state.steps
    → n < (stepped word part).state.steps
stepped_more word part n e = let more = step_steps part.state word in omega arith

-- a stream without its next word
rest_less : (stream : Option (List ℕ)) → (rest_of stream ≡ stream)
    ⊎ (length (words_left (rest_of stream)) < length (words_left stream))
rest_less (Some (word ∷ rest)) = inr (omega arith)
rest_less (Some []) = inl refl
rest_less None = inl refl

-- a part after a try
after_later : (asked : Asks) (found : Option ℕ) (part : Part)
    → Later part (after_asked asked found part).1
after_later (Nothing outcome) found part = later_self part
after_later Own found part = record {
  breaks = refl;
  opened = refl;
  stream = inl refl;
  part = inr (stepped_more None part part.state.steps refl);
}
after_later (Feed word) found part = record {
  breaks = refl;
  opened = refl;
  stream = rest_less part.stream;
  part = inr (stepped_more (Some word) (record part { stream = rest_of part.stream })
      part.state.steps refl);
}
after_later (Post side cell word) found part = record {
  breaks = refl;
  opened = refl;
  stream = inl refl;
  part = inr (stepped_more None (record part { written = counted side part.written })
      part.state.steps refl);
}
after_later (Check side cell) None part = record {
  breaks = refl;
  opened = refl;
  stream = inl refl;
  part = inr (stepped_more None part part.state.steps refl);
}
after_later (Check side cell) (Some word) part = later_self part
after_later (Take side cell) (Some word) part = record {
  breaks = refl;
  opened = refl;
  stream = inl refl;
  part = inr (stepped_more (Some word) (record part { read = counted side part.read })
      part.state.steps refl);
}
after_later (Take side cell) None part = later_self part

-- A node later in a run of tries.
record Goes (next : Chip) (name : ℕ) (part : Part) : Type 0 where
  now : Part
  there : part_of next name ≡ Some now
  later : Later part now

-- after one try
goes_try : (chip : Chip) (its name : ℕ) (side : Side) (part : Part) → IsLegal chip
    → part_of chip name ≡ Some part → Goes (happened chip (Try its side)) name part
unfolding after
goes_try chip its name side part legal there = by (part_of chip its) refl (cases_eq its name)
  where
    by : (o : Option Part) → part_of chip its ≡ o → (its ≡ name) ⊎ (its ≡ name → ⊥)
        → Goes (happened chip (Try its side)) name part
    by None e same = record {
      now = part;
      there = ap (λ c. part_of c name) (no_node chip its side e) ∙ there;
      later = later_self part;
    }
    by (Some old) e (inl same) =
        let found : Option ℕ = found_by (asks old side) chip.cells in
        let next : Part = (after_asked (asks old side) found old).1 in
        let is : old ≡ part = same_Some old part (sym e ∙ ap (part_of chip) same ∙ there) in
        record {
          now = next;
          there = ap (part_of (happened chip (Try its side))) (sym same)
              ∙ part_here chip its side old next (asks old side)
              (tried_leaves chip its side old e);
          later = subst (λ p. Later p next) is (after_later (asks old side) found old);
        }
    by (Some old) e (inr apart) = record {
      now = part;
      there = part_else chip its side old
          (after old side (found_by (asks old side) chip.cells)).1 (asks old side)
          (tried_leaves chip its side old e) legal name apart ∙ there;
      later = later_self part;
    }

-- after some tries
goes_run : (chip : Chip) (events : List Event) (name : ℕ) (part : Part) → AreTries events
    → IsLegal chip → part_of chip name ≡ Some part → Goes (ran chip events) name part
goes_run chip [] name part tries legal there =
    record { now = part; there = there; later = later_self part }
goes_run chip (Try its side ∷ events) name part tries legal there =
    let first = goes_try chip its name side part legal there in
    let rest = goes_run (happened chip (Try its side)) events name first.now tries.1
    (legal_kept chip (Try its side) legal) first.there in
    record {
      now = rest.now;
      there = rest.there;
      later = later_both part first.now rest.now first.later rest.later;
    }
goes_run chip (SetBreak its at ∷ events) name part tries legal there = absurd tries.0
goes_run chip (ClearBreak its at ∷ events) name part tries legal there = absurd tries.0
goes_run chip (PassBreak its ∷ events) name part tries legal there = absurd tries.0
goes_run chip (Piece its words ∷ events) name part tries legal there = absurd tries.0

-- a node that spins still spins after a try
spins_try : (chip : Chip) (its name : ℕ) (side : Side) → IsLegal chip → IsSpinning chip name
    → IsSpinning (happened chip (Try its side)) name
unfolding after
spins_try chip its name side legal s = by (part_of chip its) refl (cases_eq its name)
  where
    next : Chip
    next = happened chip (Try its side)

    its_try : (its ≡ name) → (full : Bool) → (s.part.state.steps == 2 ^ 64 - 1) ≡ full
        → IsSpinning (happened chip (Try name side)) name
    its_try same false e = spins_here chip name side s (own_tried chip name side s e)
    its_try same true e = record {
      part = s.part;
      there = part_here chip name side s.part
          (after s.part side (found_by (asks s.part side) chip.cells)).1 (asks s.part side)
          (tried_leaves chip name side s.part s.there)
          ∙ ap (λ q. Some (after_asked q (found_by q chip.cells) s.part).1)
          (spent_asks chip name side s e);
      spins = s.spins;
      unbroken = s.unbroken;
    }

    by : (o : Option Part) → part_of chip its ≡ o → (its ≡ name) ⊎ (its ≡ name → ⊥)
        → IsSpinning next name
    by None e same = subst (λ c. IsSpinning c name) (sym (no_node chip its side e)) s
    by (Some old) e (inl same) =
        subst (λ n. IsSpinning (happened chip (Try n side)) name) (sym same)
        (its_try same (s.part.state.steps == 2 ^ 64 - 1) refl)
    by (Some old) e (inr apart) =
        spins_else chip next name
        (part_else chip its side old (after old side (found_by (asks old side) chip.cells)).1
        (asks old side) (tried_leaves chip its side old e) legal name apart) s

-- and after some tries
spins_run : (chip : Chip) (events : List Event) (name : ℕ) → AreTries events → IsLegal chip
    → IsSpinning chip name → IsSpinning (ran chip events) name
spins_run chip [] name tries legal s = s
spins_run chip (Try its side ∷ events) name tries legal s =
    spins_run (happened chip (Try its side)) events name tries.1
    (legal_kept chip (Try its side) legal) (spins_try chip its name side legal s)
spins_run chip (SetBreak its at ∷ events) name tries legal s = absurd tries.0
spins_run chip (ClearBreak its at ∷ events) name tries legal s = absurd tries.0
spins_run chip (PassBreak its ∷ events) name tries legal s = absurd tries.0
spins_run chip (Piece its words ∷ events) name tries legal s = absurd tries.0

-- no breakpoint is among those of a part that has none
any_none : (breaks : List Bool) → ((at : ℕ) → get_or breaks at false ≡ false)
    → list_any (λ break. break) breaks ≡ false
any_none [] none = refl
any_none (break ∷ breaks) none =
    ap (λ b. b || list_any (λ break. break) breaks) (none 0)
    ∙ any_none breaks (λ at. none (suc at))

-- so its pass doesn't count
no_pass : (part : Part) → ((at : ℕ) → get_or part.breaks at false ≡ false)
    → part.pass && list_any (λ break. break) part.breaks ≡ false
no_pass part none =
    ap (λ b. part.pass && b) (any_none part.breaks none) ∙ and_false part.pass
  where
    and_false : (b : Bool) → b && false ≡ false
    and_false true = refl
    and_false false = refl

-- Parts are equal but for numbers if all else is equal, where no breakpoint is.
alike_parts : (before now : Part) → ((at : ℕ) → get_or before.breaks at false ≡ false)
    → uncounted now.state ≡ uncounted before.state → now.breaks ≡ before.breaks
    → now.stream ≡ before.stream → now.opened ≡ before.opened
    → unnumbered before ≡ unnumbered now
alike_parts before now none state breaks stream opened =
    ap (λ s. record (unnumbered before) { state = s }) (sym state)
    ∙ ap (λ l. record (unnumbered before) { state = uncounted now.state; breaks = l })
    (sym breaks)
    ∙ ap (λ p. record (unnumbered before)
    { state = uncounted now.state; breaks = now.breaks; pass = p })
    (no_pass before none
    ∙ sym (no_pass now (λ at. ap (λ l. get_or l at false) breaks ∙ none at)))
    ∙ ap₂ (λ s o. record (unnumbered now) { stream = s; opened = o }) (sym stream) (sym opened)

-- The chip of a run of tries that is again as a chip before it is alike.
module _ (kept : KeptChip) (events : List Event) (tries : AreTries events)
    (legal : IsLegal kept.chip) (free : HasNoBreaks kept.chip)
    (spins : AreSpinning kept.chip kept.spins)
    (again : IsAgain kept (ran kept.chip events)) where
  -- the chip then
  abbrev now : Chip
  now = ran kept.chip events

  -- a node of both
  abbrev Same : ℕ → Type 0
  Same name =
      (option_map unnumbered (part_of kept.chip name) ≡ option_map unnumbered (part_of now name))
      ⊎ (IsSpinning kept.chip name × IsSpinning now name)

  -- the state of a node that is there
  state_there : (chip : Chip) (name : ℕ) (part : Part) → part_of chip name ≡ Some part
      → Some part.state ≡ state_of chip name
  state_there chip name part e = sym (ap (option_map (λ (p : Part). p.state)) e)

  -- the words left of the stream of a node that is there
  left_there : (chip : Chip) (name : ℕ) (part : Part) → part_of chip name ≡ Some part
      → left_of chip name ≡ length (words_left part.stream)
  left_there chip name part e =
      ap (λ o. option_map_or (λ (p : Part). length (words_left p.stream)) o 0) e

  -- a node that spun
  spun : (name : ℕ) (part : Part) → part_of kept.chip name ≡ Some part → Spins part.state
      → Same name
  spun name part e s =
      let its : IsSpinning kept.chip name = record {
        part = part;
        there = e;
        spins = s;
        unbroken = unbroken_part kept.chip name part e free;
      } in
      inr (its, spins_run kept.chip events name tries legal its)

  -- a node that is the same part, or an equal one but for numbers
  equal : (name : ℕ) (part : Part) → part_of kept.chip name ≡ Some part
      → (g : Goes now name part) → unnumbered part ≡ unnumbered g.now → Same name
  equal name part e g same =
      inl (ap (option_map unnumbered) e ∙ ap Some same
      ∙ sym (ap (option_map unnumbered) g.there))

  -- a node that is as it was
  as_kept : (name : ℕ) (part : Part) → part_of kept.chip name ≡ Some part
      → (g : Goes now name part) → IsKept now kept.chip name → Same name
  as_kept name part e g is =
      by (is g.now.state part.state (state_there now name g.now g.there)
      (state_there kept.chip name part e)) g.later.part g.later.stream
    where
      by : (g.now.state.steps ≡ part.state.steps) ⊎ ((left_of now name ≡ left_of kept.chip name)
          × (uncounted g.now.state ≡ uncounted part.state))
          → (g.now ≡ part) ⊎ (part.state.steps < g.now.state.steps)
          → (g.now.stream ≡ part.stream)
          ⊎ (length (words_left g.now.stream) < length (words_left part.stream)) → Same name
      by (inl steps) (inl same) stream = equal name part e g (ap unnumbered (sym same))
      by (inl steps) (inr more) stream = absurd (omega arith)
      by (inr (left, state)) part_is (inl stream) =
          equal name part e g
          (alike_parts part g.now (unbroken_part kept.chip name part e free) state g.later.breaks
          stream g.later.opened)
      by (inr (left, state)) part_is (inr less) =
          let same : length (words_left g.now.stream) ≡ length (words_left part.stream) =
          sym (left_there now name g.now g.there) ∙ left ∙ left_there kept.chip name part e in
          absurd (omega arith)

  -- each node
  each : (name : ℕ) → Same name
  each name = by (part_of kept.chip name) refl (part_of now name) refl
    where
      at : (part : Part) → part_of kept.chip name ≡ Some part
          → (get_or kept.spins (index_of name) false ≡ true)
          ⊎ IsKept now kept.chip (name_at (index_of name)) → index_of name < 144 → Same name
      at part e (inl does) within =
          spun name part e (spins (index_of name) part.state within does
          (state_there kept.chip name part e
          ∙ ap (state_of kept.chip) (sym (name_back name within))))
      at part e (inr is) within =
          as_kept name part e (goes_run kept.chip events name part tries legal e)
          (subst (IsKept now kept.chip) (name_back name within) is)

      by : (o : Option Part) → part_of kept.chip name ≡ o → (o' : Option Part)
          → part_of now name ≡ o' → Same name
      by (Some part) e o' e' =
          let within : index_of name < 144 =
          subst (λ n. index_of name < n) legal.parts
          (slice_get_within kept.chip.parts (index_of name) part e) in
          at part e (again.nodes (index_of name) within) within
      by None e None e' = inl (ap (option_map unnumbered) (e ∙ sym e'))
      by None e (Some part) e' =
          let first = part_first kept.chip events name part legal e' in
          let none : None ≡ Some first.0 = sym e ∙ first.1 in
          cc

  -- so the chips are alike
  back_alike : IsAlike kept.chip now
  back_alike = record { cells = again.cells; nodes = each }

-- A search that finds its chip again has found a round.
pub found_back : (start : Chip) (search : RoundSearch) (before turns : ℕ) (chip : Chip)
    → before < turns → turns % 4 ≡ 0 → IsSearch start search before
    → chip ≡ ran start (turns_of turns) → IsAgain search.kept chip → HasNoBreaks start
    → ComesBack start search.kept_after (turns - search.kept_after)
found_back start search before turns chip more fours is there again free =
    let first : ℕ = search.kept_after in
    let period : ℕ = turns - first in
    let kept : KeptChip = search.kept in
    let few = is.few in
    let all : first + period ≡ turns = omega arith in
    let legal : IsLegal kept.chip =
    subst IsLegal (sym is.kept) (legal_ran start (turns_of first) is.legal) in
    let none : HasNoBreaks kept.chip =
    subst HasNoBreaks (sym is.kept)
    (breaks_kept start (turns_of first) (turns_tries first) is.legal free) in
    let comes : chip ≡ ran kept.chip (some_turns first period) = there
    ∙ ap (λ n. ran start (turns_of n)) (sym all) ∙ ap (ran start) (turns_split first period)
    ∙ ran-append start (turns_of first) (some_turns first period)
    ∙ ap (λ c. ran c (some_turns first period)) (sym is.kept) in
    let alike : IsAlike kept.chip (ran kept.chip (some_turns first period)) =
    back_alike kept (some_turns first period) (tries_of_turns first period) legal none is.spins
    (subst (IsAgain kept) comes again) in
    let mine = is.fours in
    record {
      fours = turns / 4 - first / 4;
      divides = omega arith;
      some = omega arith;
      again = subst (λ c. IsAlike c (ran start (turns_of (first + period)))) is.kept
          (subst (IsAlike kept.chip)
          (sym comes ∙ there ∙ ap (λ n. ran start (turns_of n)) (sym all)) alike);
    }
