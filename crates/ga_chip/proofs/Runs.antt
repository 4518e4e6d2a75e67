-- What a run does: the states of its nodes, the words of its cells, and its moments.
use Rattle.std.proofs.Common.{◌≡◌, ℕ, ◌+◌, ◌==◌, Bool, true, false, List, [], ◌∷◌, ◌++◌, ◌⊎◌, inl, inr, length, flat_map, Option, Some, None, refl, sym, ap, ap₂, ◌∙◌, subst, append-nil, append_assoc, add-zero, add_assoc, length-append}
use Rattle.std.proofs.lemmas.Option.{same_Some}
use Rattle.std.specs.Prelude.{if◌then◌else◌}
use Rattle.std.proofs.lemmas.Bool.{cases_eq, eqb-true}
use Rattle.std.proofs.lemmas.List.{map-append}
use Rattle.std.proofs.lemmas.List.Concat.{flat_map-append}
use Rattle.std.proofs.lemmas.List.Elements.{filter-append}
use Rattle.std.specs.Option.{option_to_list}
use Rattle.ga_place.specs.Node.{IsNodeName}
use Rattle.ga_place.specs.declared.side.Side.{Side}
use Rattle.ga_node.specs.State.{State}
use Rattle.ga_node.specs.Need.{need_of}
use Rattle.ga_node.specs.declared.need.Need.{Need}
use Rattle.ga_place.specs.Cell.{cell_of, read_cell}
use Rattle.ga_chip.specs.declared.outcome.Outcome.{Outcome}
use Rattle.ga_chip.specs.declared.outcome.Outcome.TheVariants.{Moved, Waits, Held, Stopped}
use Rattle.ga_chip.specs.declared.outcome.Try.{Try}
use Rattle.ga_chip.specs.Part.{Part, Asks, Nothing, Own, Feed, Post, Check, Take, picked_by}
use Rattle.ga_chip.specs.Chip.{Chip, part_of, pending}
use Rattle.ga_chip.specs.Run.{Event, happened, ran, Move, if_moved, move_in, moves, moves_of, posted_by, taken_by, tries_of, written_words, taken_words}
use Rattle.ga_chip.specs.Legal.{IsLegal}
use Rattle.ga_chip.proofs.Parts.{Fits, stand_after}
use Rattle.ga_chip.proofs.Events.{Does, DoesNothing, does, Here, Else, part_from, part_here, part_else, moves_here, moves_else, replay, stand_once, steps_once}
use Rattle.ga_chip.proofs.Kept.{flow, posted_else, taken_elsewhere, has_name, legal_kept}

-- a run goes on from its end
pub ran-append : (chip : Chip) (events more : List Event)
    → ran chip (events ++ more) ≡ ran (ran chip events) more
ran-append chip [] more = refl
ran-append chip (event ∷ events) more = ran-append (happened chip event) events more

-- so tries, and more tries behind them, are one run of them all
pub ran_more : (chip : Chip) (tries more : List Try)
    → ran chip (tries_of (tries ++ more)) ≡ ran (ran chip (tries_of tries)) (tries_of more)
ran_more chip tries more =
    ap (ran chip) (map-append _ tries more) ∙ ran-append chip (tries_of tries) (tries_of more)

pub moves-append : (chip : Chip) (events more : List Event)
    → moves chip (events ++ more) ≡ moves chip events ++ moves (ran chip events) more
moves-append chip [] more = refl
moves-append chip (event ∷ events) more =
    ap (λ ms. move_in chip event ++ ms) (moves-append (happened chip event) events more)
    ∙ sym (append_assoc (move_in chip event) (moves (happened chip event) events)
    (moves (ran (happened chip event) events) more))

pub moves_of-append : (name : ℕ) (ms more : List Move)
    → moves_of name (ms ++ more) ≡ moves_of name ms ++ moves_of name more
moves_of-append name ms more = filter-append (λ move. move.node == name) ms more

pub replay-append : (at : State) (ms more : List Move)
    → replay at (ms ++ more) ≡ replay (replay at ms) more
replay-append at [] more = refl
replay-append at (move ∷ ms) more = replay-append (stand_after move.asked move.found at) ms more

-- What one event does to a node.
pub record Stands (before after : Chip) (name : ℕ) (part : Part) (ms : List Move) : Type 0 where
  pub now : Part
  pub there : part_of after name ≡ Some now
  pub stands : now.state ≡ replay part.state (moves_of name ms)
  pub steps : now.state.steps ≡ part.state.steps + length (moves_of name ms)

pub stand_event : (chip : Chip) (event : Event) (name : ℕ) (part : Part) → IsLegal chip
    → part_of chip name ≡ Some part
    → Stands chip (happened chip event) name part (move_in chip event)
stand_event chip event name part legal there = by (does chip event)
  where
    unmoved : part_of (happened chip event) name ≡ part_of chip name
        → moves_of name (move_in chip event) ≡ []
        → Stands chip (happened chip event) name part (move_in chip event)
    unmoved same none = record {
      now = part;
      there = same ∙ there;
      stands = ap (replay part.state) (sym none);
      steps = sym (add-zero _) ∙ ap (λ l. part.state.steps + length l) (sym none);
    }

    by_name : (d : Does chip event) → (d.name ≡ name) ⊎ (d.name ≡ name → ⊥)
        → Stands chip (happened chip event) name part (move_in chip event)
    by_name d (inl same) =
        let is : part ≡ d.part =
        same_Some part d.part (sym there ∙ ap (part_of chip) (sym same) ∙ d.there) in
        record {
          now = d.next;
          there = ap (part_of (happened chip event)) (sym same) ∙ part_here chip event d;
          stands = stand_once chip event d ∙ ap (λ p. replay p.state (move_in chip event)) (sym is)
              ∙ ap (replay part.state)
              (sym (moves_here chip event d) ∙ ap (λ n. moves_of n (move_in chip event)) same);
          steps = steps_once chip event d
              ∙ ap (λ p. p.state.steps + length (move_in chip event)) (sym is)
              ∙ ap (λ l. part.state.steps + length l)
              (sym (moves_here chip event d) ∙ ap (λ n. moves_of n (move_in chip event)) same);
        }
    by_name d (inr apart) =
        unmoved (part_else chip event d name legal.parts apart) (moves_else chip event d name apart)

    by : DoesNothing chip event ⊎ Does chip event
        → Stands chip (happened chip event) name part (move_in chip event)
    by (inl nothing) = unmoved (ap (λ c. part_of c name) nothing.0) (ap (moves_of name) nothing.1)
    by (inr d) = by_name d (cases_eq d.name name)

stand_both : (one two three : Chip) (name : ℕ) (part : Part) (ms more : List Move)
    (first : Stands one two name part ms) → Stands two three name first.now more
    → Stands one three name part (ms ++ more)
stand_both one two three name part ms more first rest = record {
  now = rest.now;
  there = rest.there;
  stands = rest.stands ∙ ap (λ at. replay at (moves_of name more)) first.stands
      ∙ sym (replay-append part.state (moves_of name ms) (moves_of name more))
      ∙ ap (replay part.state) (sym (moves_of-append name ms more));
  steps = rest.steps ∙ ap (λ n. n + length (moves_of name more)) first.steps
      ∙ add_assoc part.state.steps (length (moves_of name ms)) (length (moves_of name more))
      ∙ ap (λ n. part.state.steps + n) (sym (length-append (moves_of name ms) (moves_of name more))
      ∙ ap (λ l. length l) (sym (moves_of-append name ms more)));
}

-- a node's state after a run is that after its moves in it
pub stand_ran : (chip : Chip) (events : List Event) (name : ℕ) (part : Part) → IsLegal chip
    → part_of chip name ≡ Some part → Stands chip (ran chip events) name part (moves chip events)
stand_ran chip [] name part legal there =
    record { now = part; there = there; stands = refl; steps = sym (add-zero _) }
stand_ran chip (event ∷ events) name part legal there =
    let first = stand_event chip event name part legal there in
    stand_both chip (happened chip event) (ran (happened chip event) events) name part
    (move_in chip event) (moves (happened chip event) events) first
    (stand_ran (happened chip event) events name first.now
    (legal_kept chip event legal) first.there)

-- a node that is there after an event was there before
pub part_before : (chip : Chip) (event : Event) (name : ℕ) (part : Part) → IsLegal chip
    → part_of (happened chip event) name ≡ Some part → (old : Part) × (part_of chip name ≡ Some old)
part_before chip event name part legal there = by (does chip event)
  where
    from : (d : Does chip event) → Here chip event d name part ⊎ Else chip event d name part
        → (old : Part) × (part_of chip name ≡ Some old)
    from d (inl h) = (d.part, ap (part_of chip) h.name_is ∙ d.there)
    from d (inr h) = (part, h.there)

    by : DoesNothing chip event ⊎ Does chip event → (old : Part) × (part_of chip name ≡ Some old)
    by (inl nothing) = (part, ap (λ c. part_of c name) (sym nothing.0) ∙ there)
    by (inr d) = from d (part_from chip event d name part legal.parts there)

pub part_first : (chip : Chip) (events : List Event) (name : ℕ) (part : Part) → IsLegal chip
    → part_of (ran chip events) name ≡ Some part → (old : Part) × (part_of chip name ≡ Some old)
part_first chip [] name part legal there = (part, there)
part_first chip (event ∷ events) name part legal there =
    let later =
    part_first (happened chip event) events name part (legal_kept chip event legal) there in
    part_before chip event name later.0 legal later.1

-- The words of a cell.
pub posts_once : (chip : Chip) (event : Event) (d : Does chip event) (cell : ℕ)
    → flat_map (λ move. posted_by cell move.asked) (move_in chip event) ≡ posted_by cell d.asked
posts_once chip event d cell =
    ap (flat_map (λ move. posted_by cell move.asked)) d.makes ∙ by d.outcome refl _ refl
  where
    by : (o : Outcome) → d.outcome ≡ o → (m : Move) → m.asked ≡ d.asked
        → flat_map (λ move. posted_by cell move.asked) (if_moved o m) ≡ posted_by cell d.asked
    by Moved e m f = append-nil _ ∙ ap (posted_by cell) f
    by Waits e m f = sym ((d.quiet (λ g. cc)).posts cell)
    by Held e m f = sym ((d.quiet (λ g. cc)).posts cell)
    by Stopped e m f = sym ((d.quiet (λ g. cc)).posts cell)

pub takes_once : (chip : Chip) (event : Event) (d : Does chip event) (cell : ℕ)
    → flat_map (λ move. taken_by cell move.asked move.found) (move_in chip event)
    ≡ taken_by cell d.asked d.found
takes_once chip event d cell =
    ap (flat_map (λ move. taken_by cell move.asked move.found)) d.makes ∙ by d.outcome refl
  where
    by : (o : Outcome) → d.outcome ≡ o
        → flat_map (λ move. taken_by cell move.asked move.found) (if_moved d.outcome (record {
          node = d.name;
          asked = d.asked;
          found = d.found;
          picked = picked_by (need_of d.part.state) d.side;
        })) ≡ taken_by cell d.asked d.found
    by Moved e = rw e (append-nil _)
    by Waits e = rw e (sym ((d.quiet (λ g. cc)).takes cell))
    by Held e = rw e (sym ((d.quiet (λ g. cc)).takes cell))
    by Stopped e = rw e (sym ((d.quiet (λ g. cc)).takes cell))

-- what was pending and is posted in an event is taken in it or pending after it
flow_event : (chip : Chip) (event : Event) (cell : ℕ) → IsLegal chip
    → option_to_list (pending chip cell) ++ flat_map (λ move. posted_by cell move.asked)
    (move_in chip event) ≡ flat_map (λ move. taken_by cell move.asked move.found)
    (move_in chip event) ++ option_to_list (pending (happened chip event) cell)
flow_event chip event cell legal = by (does chip event)
  where
    by : DoesNothing chip event ⊎ Does chip event
        → option_to_list (pending chip cell) ++ flat_map (λ move. posted_by cell move.asked)
        (move_in chip event) ≡ flat_map (λ move. taken_by cell move.asked move.found)
        (move_in chip event) ++ option_to_list (pending (happened chip event) cell)
    by (inl nothing) = rw (nothing.1, nothing.0) (append-nil _)
    by (inr d) =
        ap (λ l. option_to_list (pending chip cell) ++ l) (posts_once chip event d cell)
        ∙ flow chip event d cell legal
        ∙ ap (λ l. l ++ option_to_list (pending (happened chip event) cell))
        (sym (takes_once chip event d cell))

flow_both : {A : Type 0} (p q r w v t u : List A) → p ++ w ≡ t ++ q → q ++ v ≡ u ++ r
    → p ++ (w ++ v) ≡ (t ++ u) ++ r
flow_both p q r w v t u e f =
    sym (append_assoc p w v) ∙ ap (λ l. l ++ v) e ∙ append_assoc t q v ∙ ap (λ l. t ++ l) f
    ∙ sym (append_assoc t u r)

-- what was pending and is written in a run is taken in it or pending after it
pub flow_ran : (chip : Chip) (events : List Event) (cell : ℕ) → IsLegal chip
    → option_to_list (pending chip cell) ++ written_words chip events cell
    ≡ taken_words chip events cell ++ option_to_list (pending (ran chip events) cell)
flow_ran chip [] cell legal = append-nil _
flow_ran chip (event ∷ events) cell legal =
    ap (λ l. option_to_list (pending chip cell) ++ l) (flat_map-append
    (λ move. posted_by cell move.asked) (move_in chip event) (moves (happened chip event) events))
    ∙ flow_both (option_to_list (pending chip cell))
    (option_to_list (pending (happened chip event) cell))
    (option_to_list (pending (ran (happened chip event) events) cell)) _ _ _ _
    (flow_event chip event cell legal)
    (flow_ran (happened chip event) events cell (legal_kept chip event legal))
    ∙ ap (λ l. l ++ option_to_list (pending (ran (happened chip event) events) cell))
    (sym (flat_map-append (λ move. taken_by cell move.asked move.found) (move_in chip event)
    (moves (happened chip event) events)))

-- the words that moves post at a cell, and those that they take from it
abbrev pub posts : ℕ → List Move → List ℕ
posts cell ms = flat_map (λ move. posted_by cell move.asked) ms

abbrev pub takes : ℕ → List Move → List ℕ
takes cell ms = flat_map (λ move. taken_by cell move.asked move.found) ms

-- only a cell's writer posts there
posts_event : (chip : Chip) (event : Event) (name cell : ℕ) (side : Side) → IsLegal chip
    → cell_of name side ≡ Some cell
    → posts cell (move_in chip event) ≡ posts cell (moves_of name (move_in chip event))
posts_event chip event name cell side legal here = by (does chip event)
  where
    by_name : (d : Does chip event) → (d.name ≡ name) ⊎ (d.name ≡ name → ⊥)
        → posts cell (move_in chip event) ≡ posts cell (moves_of name (move_in chip event))
    by_name d (inl same) =
        ap (posts cell)
        (sym (moves_here chip event d) ∙ ap (λ n. moves_of n (move_in chip event)) same)
    by_name d (inr apart) =
        posts_once chip event d cell ∙ posted_else chip event d name cell side legal here apart
        ∙ ap (posts cell) (sym (moves_else chip event d name apart))

    by : DoesNothing chip event ⊎ Does chip event
        → posts cell (move_in chip event) ≡ posts cell (moves_of name (move_in chip event))
    by (inl nothing) = rw nothing.1 refl
    by (inr d) = by_name d (cases_eq d.name name)

pub posts_ran : (chip : Chip) (events : List Event) (name cell : ℕ) (side : Side) → IsLegal chip
    → cell_of name side ≡ Some cell
    → written_words chip events cell ≡ posts cell (moves_of name (moves chip events))
posts_ran chip [] name cell side legal here = refl
posts_ran chip (event ∷ events) name cell side legal here =
    flat_map-append _ (move_in chip event) (moves (happened chip event) events)
    ∙ ap₂ (λ a b. a ++ b) (posts_event chip event name cell side legal here)
    (posts_ran (happened chip event) events name cell side (legal_kept chip event legal) here)
    ∙ sym (flat_map-append _ (moves_of name (move_in chip event))
    (moves_of name (moves (happened chip event) events)))
    ∙ ap (posts cell)
    (sym (moves_of-append name (move_in chip event) (moves (happened chip event) events)))

-- and only its reader takes from it
takes_event : (chip : Chip) (event : Event) (name cell : ℕ) (side : Side) → IsLegal chip
    → IsNodeName name → read_cell name side ≡ Some cell
    → takes cell (move_in chip event) ≡ takes cell (moves_of name (move_in chip event))
takes_event chip event name cell side legal named here = by (does chip event)
  where
    by_name : (d : Does chip event) → (d.name ≡ name) ⊎ (d.name ≡ name → ⊥)
        → takes cell (move_in chip event) ≡ takes cell (moves_of name (move_in chip event))
    by_name d (inl same) =
        ap (takes cell)
        (sym (moves_here chip event d) ∙ ap (λ n. moves_of n (move_in chip event)) same)
    by_name d (inr apart) =
        takes_once chip event d cell
        ∙ taken_elsewhere chip event d name cell side legal named here apart
        ∙ ap (takes cell) (sym (moves_else chip event d name apart))

    by : DoesNothing chip event ⊎ Does chip event
        → takes cell (move_in chip event) ≡ takes cell (moves_of name (move_in chip event))
    by (inl nothing) = rw nothing.1 refl
    by (inr d) = by_name d (cases_eq d.name name)

pub takes_ran : (chip : Chip) (events : List Event) (name cell : ℕ) (side : Side) → IsLegal chip
    → IsNodeName name → read_cell name side ≡ Some cell
    → taken_words chip events cell ≡ takes cell (moves_of name (moves chip events))
takes_ran chip [] name cell side legal named here = refl
takes_ran chip (event ∷ events) name cell side legal named here =
    flat_map-append _ (move_in chip event) (moves (happened chip event) events)
    ∙ ap₂ (λ a b. a ++ b) (takes_event chip event name cell side legal named here)
    (takes_ran (happened chip event) events name cell side (legal_kept chip event legal) named here)
    ∙ sym (flat_map-append _ (moves_of name (move_in chip event))
    (moves_of name (moves (happened chip event) events)))
    ∙ ap (takes cell)
    (sym (moves_of-append name (move_in chip event) (moves (happened chip event) events)))

-- A cell at which something is posted in a run has a writer, and one from which something is taken
-- has a reader.
abbrev pub HasWriter : ℕ → Type 0
HasWriter cell = (name : ℕ) × (side : Side) × (cell_of name side ≡ Some cell)

abbrev pub HasReader : ℕ → Type 0
HasReader cell = (name : ℕ) × (side : Side) × IsNodeName name × (read_cell name side ≡ Some cell)

posts_or_none : (q : Asks) (n : Need) (name cell : ℕ) → Fits q n name
    → (posted_by cell q ≡ []) ⊎ HasWriter cell
posts_or_none (Nothing outcome) n name cell fits = inl refl
posts_or_none Own n name cell fits = inl refl
posts_or_none (Feed fed) n name cell fits = inl refl
posts_or_none (Check side at) n name cell fits = inl refl
posts_or_none (Take side at) n name cell fits = inl refl
posts_or_none (Post side at word) n name cell fits = go (at == cell) refl
  where
    go : (b : Bool) → (at == cell) ≡ b → ((if b then word ∷ [] else []) ≡ []) ⊎ HasWriter cell
    go true e = inr (name, side, fits.0 ∙ ap Some (eqb-true at cell e))
    go false e = inl refl

takes_or_none : (q : Asks) (found : Option ℕ) (n : Need) (name cell : ℕ) → IsNodeName name
    → Fits q n name → (taken_by cell q found ≡ []) ⊎ HasReader cell
takes_or_none (Nothing outcome) found n name cell named fits = inl refl
takes_or_none Own found n name cell named fits = inl refl
takes_or_none (Feed fed) found n name cell named fits = inl refl
takes_or_none (Check side at) found n name cell named fits = inl refl
takes_or_none (Post side at word) found n name cell named fits = inl refl
takes_or_none (Take side at) None n name cell named fits = inl refl
takes_or_none (Take side at) (Some word) n name cell named fits = go (at == cell) refl
  where
    go : (b : Bool) → (at == cell) ≡ b → ((if b then word ∷ [] else []) ≡ []) ⊎ HasReader cell
    go true e = inr (name, side, named, fits.1 ∙ ap Some (eqb-true at cell e))
    go false e = inl refl

posts_event_or_none : (chip : Chip) (event : Event) (cell : ℕ)
    → (posts cell (move_in chip event) ≡ []) ⊎ HasWriter cell
posts_event_or_none chip event cell = by (does chip event)
  where
    at : (d : Does chip event) → (posted_by cell d.asked ≡ []) ⊎ HasWriter cell
        → (posts cell (move_in chip event) ≡ []) ⊎ HasWriter cell
    at d (inl none) = inl (posts_once chip event d cell ∙ none)
    at d (inr writer) = inr writer

    by : DoesNothing chip event ⊎ Does chip event
        → (posts cell (move_in chip event) ≡ []) ⊎ HasWriter cell
    by (inl nothing) = inl (ap (posts cell) nothing.1)
    by (inr d) = at d (posts_or_none d.asked (need_of d.part.state) d.part.state.node cell d.fits)

takes_event_or_none : (chip : Chip) (event : Event) (cell : ℕ) → IsLegal chip
    → (takes cell (move_in chip event) ≡ []) ⊎ HasReader cell
takes_event_or_none chip event cell legal = by (does chip event)
  where
    at : (d : Does chip event) → (taken_by cell d.asked d.found ≡ []) ⊎ HasReader cell
        → (takes cell (move_in chip event) ≡ []) ⊎ HasReader cell
    at d (inl none) = inl (takes_once chip event d cell ∙ none)
    at d (inr reader) = inr reader

    by : DoesNothing chip event ⊎ Does chip event
        → (takes cell (move_in chip event) ≡ []) ⊎ HasReader cell
    by (inl nothing) = inl (ap (takes cell) nothing.1)
    by (inr d) =
        at d (takes_or_none d.asked d.found (need_of d.part.state) d.part.state.node cell
        (subst IsNodeName (sym (legal.named d.name d.part d.there))
        (has_name chip d.name d.part legal d.there)) d.fits)

both_or : {A P : Type 0} (xs ys : List A) → (xs ≡ []) ⊎ P → (ys ≡ []) ⊎ P → (xs ++ ys ≡ []) ⊎ P
both_or xs ys (inr p) h = inr p
both_or xs ys (inl e) (inr p) = inr p
both_or xs ys (inl e) (inl f) = inl (ap₂ (λ a b. a ++ b) e f)

pub written_or_none : (chip : Chip) (events : List Event) (cell : ℕ)
    → (written_words chip events cell ≡ []) ⊎ HasWriter cell
written_or_none chip [] cell = inl refl
written_or_none chip (event ∷ events) cell =
    subst (λ l. (l ≡ []) ⊎ HasWriter cell) (sym (flat_map-append (λ move. posted_by cell move.asked)
    (move_in chip event) (moves (happened chip event) events)))
    (both_or (posts cell (move_in chip event)) (posts cell (moves (happened chip event) events))
    (posts_event_or_none chip event cell) (written_or_none (happened chip event) events cell))

pub taken_or_none : (chip : Chip) (events : List Event) (cell : ℕ) → IsLegal chip
    → (taken_words chip events cell ≡ []) ⊎ HasReader cell
taken_or_none chip [] cell legal = inl refl
taken_or_none chip (event ∷ events) cell legal =
    subst (λ l. (l ≡ []) ⊎ HasReader cell) (sym (flat_map-append (λ move. taken_by cell move.asked
    move.found) (move_in chip event) (moves (happened chip event) events)))
    (both_or (takes cell (move_in chip event)) (takes cell (moves (happened chip event) events))
    (takes_event_or_none chip event cell legal)
    (taken_or_none (happened chip event) events cell (legal_kept chip event legal)))
