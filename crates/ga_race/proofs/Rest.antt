-- A node that rests at the end of a run makes no more steps in any run that is embedded in it.
use Rattle.std.proofs.Common.{◌≡◌, ℕ, ◌≤◌, Bool, true, false, List, [], ◌∷◌, ◌++◌, ◌⊎◌, inl, inr, Option, Some, None, refl, sym, ap, ◌∙◌, subst, append-nil, append_assoc, arith}
use Rattle.std.proofs.lemmas.List.{append_cancel_left}
use Rattle.ga_place.specs.Node.{IsNodeName}
use Rattle.ga_place.specs.Cell.{cell_of, read_cell}
use Rattle.ga_place.specs.declared.side.Side.{Side}
use Rattle.ga_place.proofs.Cells.{neighbour_there, reader_there, writer_there}
use Rattle.ga_place.proofs.SideLemmas.{neighbour_of-IsNodeName}
use Rattle.ga_node.specs.Need.{need_of}
use Rattle.ga_node.specs.declared.need.Need.{Need}
use Rattle.ga_node.specs.declared.need.Need.TheVariants as need
use Rattle.ga_chip.specs.declared.outcome.Outcome.TheVariants.{Held, Moved}
use Rattle.ga_chip.specs.Part.{Part, Asks, Nothing, Own, Feed, Post, Check, Take, after, after_asked, asks, asks_by, asks_if, held_by, input_of, is_held}
use Rattle.ga_chip.specs.Chip.{Chip, found_by, part_of, pending, pending_in, tried}
use Rattle.ga_chip.specs.Run.{Event, Move, move_in, moves, moves_of, pieces, ran, words_left}
use Rattle.ga_chip.specs.Legal.{IsLegal}
use Rattle.ga_chip.proofs.Parts.{Fits, Passes}
use Rattle.ga_chip.proofs.Kept.{has_name, legal_ran}
use Rattle.ga_chip.proofs.Moments.{Makes, makes_event}
use Rattle.ga_chip.proofs.Runs.{part_first, stand_ran}
use Rattle.ga_chip.proofs.Streams.{fed_moves, fed_ran, open_there}
use Rattle.ga_chip.proofs.Tries.{tried_there}
use Rattle.ga_race.specs.Spins.{IsResting}
use Rattle.ga_race.proofs.Prefixes.{flow_counts, full, took, took_less, wrote, wrote_less}
use Rattle.ga_race.proofs.Causes.{fits_made}
use Rattle.ga_race.proofs.Embedded.{IsEmbedded, IsFedPrefix, same_state}

-- a try that passes is moved
passes_moved : (q : Asks) (found : Option ℕ) (part : Part) → Passes q found
    → (after_asked q found part).0 ≡ Moved
passes_moved (Nothing outcome) found part p = absurd p
passes_moved Own found part p = refl
passes_moved (Feed word) found part p = refl
passes_moved (Post side cell word) found part p = refl
passes_moved (Check side cell) found part p = ap (λ f. (after_asked (Check side cell) f part).0) p
passes_moved (Take side cell) found part p = ap (λ f. (after_asked (Take side cell) f part).0) p.1

-- a node that could move, but for a breakpoint, is held
held_moves : (n : Need) (name : ℕ) (stream : Option (List ℕ)) (side : Side) (f found : Option ℕ)
    (part : Part) → Passes (asks_by n name stream side) f → (after_asked (held_by n) found part).0
    ≡ Held
held_moves (need.Stopped stop) name stream side f found part p = absurd p
held_moves need.Own name stream side f found part p = refl
held_moves (need.Take sides) name stream side f found part p = refl
held_moves (need.Post to word) name stream side f found part p = refl
held_moves (need.Check to) name stream side f found part p = refl
held_moves need.Input name stream side f found part p = refl

outcome_by : (part : Part) (side : Side) (cells : List (Option ℕ)) (held : Bool) → is_held part
    ≡ held → (after part side (found_by (asks part side) cells)).0
    ≡ (after_asked (asks_if held part side) (found_by (asks_if held part side) cells) part).0
unfolding after asks
outcome_by part side cells held e =
    ap (λ h. (after_asked (asks_if h part side) (found_by (asks_if h part side) cells) part).0) e

moves_or_held : (part : Part) (side : Side) (cells : List (Option ℕ))
    → Passes (asks_by (need_of part.state) part.state.node part.stream side)
    (found_by (asks_by (need_of part.state) part.state.node part.stream side) cells)
    → ((after part side (found_by (asks part side) cells)).0 ≡ Moved)
    ⊎ ((after part side (found_by (asks part side) cells)).0 ≡ Held)
moves_or_held part side cells passed = by (is_held part) refl
  where
    by : (b : Bool) → is_held part ≡ b → ((after part side (found_by (asks part side) cells)).0
        ≡ Moved) ⊎ ((after part side (found_by (asks part side) cells)).0 ≡ Held)
    by true e =
        inr (outcome_by part side cells true e ∙ held_moves (need_of part.state) part.state.node
        part.stream side _ _ part passed)
    by false e = inl (outcome_by part side cells false e ∙ passes_moved _ _ part passed)

-- a try passes at other cells too, if a take finds a word there and a check finds none
persists : (q : Asks) (cells others : List (Option ℕ)) → Passes q (found_by q cells)
    → ((side : Side) (cell word : ℕ) → q ≡ Take side cell → pending_in cells cell ≡ Some word
    → (v : ℕ) × (pending_in others cell ≡ Some v))
    → ((side : Side) (cell : ℕ) → q ≡ Check side cell → pending_in cells cell ≡ None
    → pending_in others cell ≡ None) → Passes q (found_by q others)
persists (Nothing outcome) cells others p take check = p
persists Own cells others p take check = tt
persists (Feed word) cells others p take check = tt
persists (Post side cell word) cells others p take check = tt
persists (Check side cell) cells others p take check = check side cell refl p
persists (Take side cell) cells others p take check = take side cell p.0 refl p.1

some_word : (o : Option ℕ) → 1 ≤ full o → (v : ℕ) × (o ≡ Some v)
some_word (Some v) h = (v, refl)
some_word None h = absurd (omega arith)

no_word : (o : Option ℕ) → full o ≡ 0 → o ≡ None
no_word None e = refl
no_word (Some v) e = absurd (omega arith)

-- a stream with more words has a next word too
input_more : (s t : Option (List ℕ)) (more : List ℕ) (f g : Option ℕ) → Passes (input_of s) f
    → words_left t ≡ words_left s ++ more → Passes (input_of t) g
input_more None t more f g p e = absurd p
input_more (Some []) t more f g p e = absurd p
input_more (Some (w ∷ ws)) None more f g p e = let e' : [] ≡ w ∷ (ws ++ more) = e in cc
input_more (Some (w ∷ ws)) (Some []) more f g p e = let e' : [] ≡ w ∷ (ws ++ more) = e in cc
input_more (Some (w ∷ ws)) (Some (v ∷ vs)) more f g p e = tt

-- a try passes by the same need, if the stream has a next word
same_need : (n : Need) (name : ℕ) (s t : Option (List ℕ)) (side : Side) (cells : List (Option ℕ))
    → Passes (asks_by n name s side) (found_by (asks_by n name s side) cells)
    → ((f g : Option ℕ) → Passes (input_of s) f → Passes (input_of t) g)
    → Passes (asks_by n name t side) (found_by (asks_by n name t side) cells)
same_need need.Own name s t side cells p input = p
same_need (need.Take sides) name s t side cells p input = p
same_need (need.Post to word) name s t side cells p input = p
same_need (need.Check to) name s t side cells p input = p
same_need need.Input name s t side cells p input = input _ _ p
same_need (need.Stopped stop) name s t side cells p input = p

-- A MOVE BEYOND THE END could be made at the end.
module _ (chip : Chip) (whole run : List Event) (event : Event) (name : ℕ) (m : Move)
    (legal : IsLegal chip) (inside : IsEmbedded chip run whole) (fed : IsFedPrefix chip whole run)
    (now : moves_of name (move_in (ran chip run) event) ≡ m ∷ [])
    (all : moves_of name (moves chip run) ≡ moves_of name (moves chip whole)) where
  abbrev a : Makes (ran chip run) name m
  a = makes_event (ran chip run) event name m now

  named : IsNodeName name
  named = has_name (ran chip run) name a.part (legal_ran chip run legal) a.there

  fits : Fits m.asked (need_of a.part.state) name
  fits = fits_made (ran chip run) name m a (legal_ran chip run legal)

  take : (side : Side) (cell word : ℕ) → m.asked ≡ Take side cell → pending (ran chip run) cell
      ≡ Some word → (v : ℕ) × (pending (ran chip whole) cell ≡ Some v)
  take side cell word e holds =
      let here : read_cell name side ≡ Some cell =
      (subst (λ q. Fits q (need_of a.part.state) name) e fits).1 in
      let writer = writer_there name cell side here in
      let written : wrote chip run cell ≤ wrote chip whole cell =
      wrote_less chip run whole writer.0 cell side legal writer.2 (inside writer.0) in
      let taken : took chip whole cell ≤ took chip run cell =
      took_less chip whole run name cell side legal named here ([], all ∙ sym (append-nil _)) in
      let flow = flow_counts chip run cell legal in
      let flow' = flow_counts chip whole cell legal in
      let one : full (pending (ran chip run) cell) ≡ 1 = ap full holds in
      some_word (pending (ran chip whole) cell) (omega arith)

  check : (side : Side) (cell : ℕ) → m.asked ≡ Check side cell → pending (ran chip run) cell ≡ None
      → pending (ran chip whole) cell ≡ None
  check side cell e holds =
      let here : cell_of name side ≡ Some cell =
      (subst (λ q. Fits q (need_of a.part.state) name) e fits).0 in
      let reader = neighbour_there name cell side here in
      let named' : IsNodeName reader.0 =
      neighbour_of-IsNodeName name reader.0 side named reader.1 in
      let reads : read_cell reader.0 side ≡ Some cell =
      reader_there name reader.0 cell side named here reader.1 in
      let taken : took chip run cell ≤ took chip whole cell =
      took_less chip run whole reader.0 cell side legal named' reads (inside reader.0) in
      let written : wrote chip whole cell ≤ wrote chip run cell =
      wrote_less chip whole run name cell side legal here ([], all ∙ sym (append-nil _)) in
      let flow = flow_counts chip run cell legal in
      let flow' = flow_counts chip whole cell legal in
      let none : full (pending (ran chip run) cell) ≡ 0 = ap full holds in
      no_word (pending (ran chip whole) cell) (omega arith)

  last : (p : Part) × (part_of (ran chip whole) name ≡ Some p)
  last =
      let first =
      part_first chip run name a.part legal a.there in
      let s = stand_ran chip whole name first.0 legal first.1 in (s.now, s.there)

  equal_states : a.part.state ≡ last.0.state
  equal_states = same_state chip run whole name a.part last.0 legal all a.there last.1

  stream : words_left last.0.stream ≡ words_left a.part.stream ++ (fed name).0
  stream =
      let first = part_first chip run name a.part legal a.there in
      let one = fed_ran chip run name first.0 a.part legal first.1 a.there in
      let two = fed_ran chip whole name first.0 last.0 legal first.1 last.1 in
      let open_is = open_there chip name first.0 first.1 in
      let more : pieces first.0.opened name whole ≡ pieces first.0.opened name run ++ (fed name).0 =
      subst (λ o. pieces o name whole ≡ pieces o name run ++ (fed name).0) open_is (fed name).1 in
      append_cancel_left (fed_moves (moves_of name (moves chip whole))) (words_left last.0.stream)
      (words_left a.part.stream ++ (fed name).0)
      (sym two ∙ ap (λ l. words_left first.0.stream ++ l) more
      ∙ sym (append_assoc (words_left first.0.stream) (pieces first.0.opened name run) (fed name).0)
      ∙ ap (λ l. l ++ (fed name).0) one ∙ ap (λ ms. (fed_moves ms ++ words_left a.part.stream)
      ++ (fed name).0) all
      ∙ append_assoc (fed_moves (moves_of name (moves chip whole))) (words_left a.part.stream)
      (fed name).0)

  passes_last : Passes (asks_by (need_of last.0.state) last.0.state.node last.0.stream a.side)
      (found_by (asks_by (need_of last.0.state) last.0.state.node last.0.stream a.side)
      (ran chip whole).cells)
  passes_last =
      let there : Passes m.asked (found_by m.asked (ran chip whole).cells) =
      persists m.asked (ran chip run).cells (ran chip whole).cells
      (subst (Passes m.asked) a.looks a.passed) take check in
      let is : m.asked ≡ asks_by (need_of last.0.state) last.0.state.node a.part.stream a.side =
      a.asked ∙ ap (λ s. asks_by (need_of s) s.node a.part.stream a.side) equal_states in
      same_need (need_of last.0.state) last.0.state.node a.part.stream last.0.stream a.side
      (ran chip whole).cells (subst (λ q. Passes q (found_by q (ran chip whole).cells)) is there)
      (λ f g p. input_more a.part.stream last.0.stream (fed name).0 f g p stream)

  tried_is : (tried (ran chip whole) name a.side).0
      ≡ (after last.0 a.side (found_by (asks last.0 a.side) (ran chip whole).cells)).0
  tried_is = ap (λ r. r.0) (tried_there (ran chip whole) name a.side last.0 last.1)

  pub not_resting : IsResting (ran chip whole) name → ⊥
  not_resting rests = by (moves_or_held last.0 a.side (ran chip whole).cells passes_last)
    where
      by : ((after last.0 a.side (found_by (asks last.0 a.side) (ran chip whole).cells)).0
          ≡ Moved) ⊎ ((after last.0 a.side (found_by (asks last.0 a.side)
          (ran chip whole).cells)).0 ≡ Held) → ⊥
      by (inl moved) = (rests a.side).0 (tried_is ∙ moved)
      by (inr held) = (rests a.side).1 (tried_is ∙ held)

  -- where no breakpoint holds the node, a try of it at the end is Moved
  pub moves_free : ((part : Part) → part_of (ran chip whole) name ≡ Some part
      → is_held part ≡ false) → (tried (ran chip whole) name a.side).0 ≡ Moved
  moves_free free =
      tried_is
      ∙ outcome_by last.0 a.side (ran chip whole).cells false (free last.0 last.1)
      ∙ passes_moved _ _ last.0 passes_last
