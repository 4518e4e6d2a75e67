-- What one event does to a chip.
use Rattle.std.proofs.Common.{◌≡◌, ℕ, ◌+◌, ◌≤◌, ◌<◌, ◌==◌, Bool, true, List, [], ◌∷◌, ◌++◌, append-nil, false, None, ◌⊎◌, inl, inr, length, set, Option, Some, refl, sym, ap, ◌∙◌, subst, add-zero}
use Rattle.std.specs.Prelude.{◌&&◌, if◌then◌else◌}
use Rattle.std.proofs.lemmas.Option.{none-some, same_Some, slice_get_within}
use Rattle.std.proofs.lemmas.Bool.{cases_eq, eq-eqb, ne_eqb}
use Rattle.ga_place.specs.Node.{IsNodeName}
use Rattle.ga_place.specs.declared.side.Side.{Side}
use Rattle.ga_place.specs.declared.side.Side.TheVariants.{Right}
use Rattle.ga_node.specs.State.{State}
use Rattle.ga_node.specs.Need.{need_of}
use Rattle.ga_place.specs.Cell.{index_of, cell_of, read_cell}
use Rattle.ga_chip.specs.declared.outcome.Outcome.{Outcome}
use Rattle.ga_chip.specs.declared.outcome.Outcome.TheVariants.{Moved, Waits, Held, Stopped}
use Rattle.ga_chip.specs.Part.{Part, count_at, Asks, Nothing, asks, asks_by, picked_by, after}
use Rattle.ga_chip.specs.Chip.{Chip, part_of, found_by, cells_after, tried, tried_at}
use Rattle.ga_chip.specs.Chip.{with_changed}
use Rattle.ga_chip.specs.Run.{Event, Try, SetBreak, ClearBreak, PassBreak, Piece, break_set, break_cleared, break_passed, words_left, piece_come, piece_of, happened, Move, if_moved, move_at, move_in, input_by, posted_by, taken_by, moves_of}
use Rattle.ga_chip.proofs.Lists.{get-set_here, get-set_else}
use Rattle.ga_place.proofs.Cells.{one_place}
use Rattle.ga_chip.proofs.Parts.{Fits, asks_fits, moved_asks, stand_after, stands_after, feeds_after, opened_after, name_after, written_after, read_after, Quiet, quiet_after, still_after, steps_after, Passes, passed_after, counts_after}

-- a part without its breakpoints, its pass and its stream
abbrev pub bared : Part → Part
bared part = record part { breaks = []; pass = false; stream = None }

-- An event that changes one node's part, as a try or a use of its breakpoints does: the part after
-- it, what was asked for and found, and the outcome.
pub record Does (chip : Chip) (event : Event) : Type 0 where
  pub name : ℕ
  pub side : Side
  pub part : Part
  pub next : Part
  pub asked : Asks
  pub found : Option ℕ
  pub outcome : Outcome
  pub there : part_of chip name ≡ Some part
  pub leads : happened chip event
      ≡ record { parts = set chip.parts (index_of name) next; cells = cells_after asked chip.cells }
  pub makes : move_in chip event ≡ if_moved outcome (record
      { node = name; asked = asked; found = found; picked = picked_by (need_of part.state) side })
  pub looks : found ≡ found_by asked chip.cells
  pub fits : Fits asked (need_of part.state) part.state.node
  pub settled : outcome ≡ Moved
      → asked ≡ asks_by (need_of part.state) part.state.node part.stream side
  pub passed : outcome ≡ Moved → Passes asked found
  pub counts : outcome ≡ Moved → next.state.steps ≡ part.state.steps + 1
  pub quiet : (outcome ≡ Moved → ⊥) → Quiet asked found
  pub rests : (outcome ≡ Moved → ⊥) → bared next ≡ bared part
  pub stands : next.state ≡ stand_after asked found part.state
  pub named : next.state.node ≡ part.state.node
  pub opens : next.opened ≡ part.opened
  pub elsewhere : (opened : Bool) (other : ℕ) → (other ≡ name → ⊥)
      → piece_of opened other event ≡ []
  pub fed : words_left part.stream ++ piece_of part.opened name event ≡ input_by asked
      ++ words_left next.stream
  pub wrote : (at : Side) (cell : ℕ) → cell_of part.state.node at ≡ Some cell
      → count_at at next.written ≡ count_at at part.written + length (posted_by cell asked)
  pub took : (at : Side) (cell : ℕ) → IsNodeName part.state.node
      → read_cell part.state.node at ≡ Some cell
      → count_at at next.read ≡ count_at at part.read + length (taken_by cell asked found)
  pub steps : (at : Side) → count_at at part.written ≤ part.state.steps
      → count_at at next.written ≤ next.state.steps

-- an event that changes nothing
abbrev pub DoesNothing : Chip → Event → Type 0
DoesNothing chip event =
    (happened chip event ≡ chip) × (move_in chip event ≡ [])
    × ((opened : Bool) (name : ℕ) (part : Part) → part_of chip name ≡ Some part
    → piece_of opened name event ≡ [])

tries : (chip : Chip) (name : ℕ) (side : Side) (part : Part) → part_of chip name ≡ Some part
    → Does chip (Try name side)
unfolding happened tried move_in
tries chip name side part there = record {
  name = name;
  side = side;
  part = part;
  next = (after part side (found_by (asks part side) chip.cells)).1;
  asked = asks part side;
  found = found_by (asks part side) chip.cells;
  outcome = (after part side (found_by (asks part side) chip.cells)).0;
  there = there;
  leads = ap (λ o. (tried_at o chip name side).1) there;
  makes = ap (λ o. move_at o chip name side) there;
  looks = refl;
  fits = asks_fits part side;
  settled = moved_asks part side _;
  passed = passed_after part side _;
  counts = counts_after part side _;
  quiet = quiet_after part side _;
  rests = λ still. ap bared (still_after part side _ still);
  stands = stands_after part side _;
  named = name_after part side _;
  opens = opened_after part side _;
  elsewhere = λ opened other apart. refl;
  fed = append-nil (words_left part.stream)
      ∙ feeds_after part side (found_by (asks part side) chip.cells);
  wrote = written_after part side _;
  took = read_after part side _;
  steps = steps_after part side _;
}

-- a change of only a node's breakpoints, its pass and its stream, by an event that gives words to
-- the stream
abbrev OnlyBreaks : (Part → Part) → Event → ℕ → Type 0
OnlyBreaks change event name =
    (part : Part) → (bared (change part) ≡ bared part)
    × (words_left part.stream ++ piece_of part.opened name event ≡ words_left (change part).stream)

breaks : (chip : Chip) (event : Event) (name : ℕ) (change : Part → Part) (part : Part)
    → OnlyBreaks change event name
    → ((opened : Bool) (other : ℕ) → (other ≡ name → ⊥) → piece_of opened other event ≡ [])
    → happened chip event ≡ with_changed change (part_of chip name) chip name
    → move_in chip event ≡ [] → part_of chip name ≡ Some part → Does chip event
breaks chip event name change part only others leads none there =
    let same : bared (change part) ≡ bared part = (only part).0 in
    record {
      name = name;
      side = Right;
      part = part;
      next = change part;
      asked = Nothing Waits;
      found = None;
      outcome = Waits;
      there = there;
      leads = leads ∙ ap (λ o. with_changed change o chip name) there;
      makes = none;
      looks = refl;
      fits = λ e. cc;
      settled = λ e. cc;
      passed = λ e. cc;
      counts = λ e. cc;
      quiet = λ e.
          record { posts = λ cell. refl; takes = λ cell. refl; stays = λ at. refl; feeds = refl };
      rests = λ e. same;
      stands = ap (λ p. p.state) same;
      named = ap (λ p. p.state.node) same;
      opens = ap (λ p. p.opened) same;
      elsewhere = others;
      fed = (only part).1;
      wrote = λ at cell here. ap (λ p. count_at at p.written) same ∙ sym (add-zero _);
      took = λ at cell node here. ap (λ p. count_at at p.read) same ∙ sym (add-zero _);
      steps = λ at h. subst (λ p. count_at at p.written ≤ p.state.steps) (sym same) h;
    }

breaks_or_not : (chip : Chip) (event : Event) (name : ℕ) (change : Part
    → Part) (found : Option Part) → part_of chip name ≡ found → OnlyBreaks change event name
    → ((opened : Bool) (other : ℕ) → (other ≡ name → ⊥) → piece_of opened other event ≡ [])
    → happened chip event ≡ with_changed change (part_of chip name) chip name
    → move_in chip event ≡ [] → DoesNothing chip event ⊎ Does chip event
breaks_or_not chip event name change None e only others leads none =
    inl (
      leads ∙ ap (λ o. with_changed change o chip name) e,
      none,
      λ opened n part there. others opened n
          (λ same. none-some part (sym e ∙ ap (part_of chip) (sym same) ∙ there)),
    )
breaks_or_not chip event name change (Some part) e only others leads none =
    inr (breaks chip event name change part only others leads none e)

tries_or_not : (chip : Chip) (name : ℕ) (side : Side) (found : Option Part)
    → part_of chip name ≡ found → DoesNothing chip (Try name side) ⊎ Does chip (Try name side)
unfolding happened tried move_in
tries_or_not chip name side None e =
    inl (
      ap (λ o. (tried_at o chip name side).1) e,
      ap (λ o. move_at o chip name side) e,
      λ opened n part there. refl,
    )
tries_or_not chip name side (Some part) e = inr (tries chip name side part e)

-- each event does one of the two
pub does : (chip : Chip) (event : Event) → DoesNothing chip event ⊎ Does chip event
unfolding happened move_in
does chip (Try name side) = tries_or_not chip name side (part_of chip name) refl
does chip (SetBreak name at) =
    breaks_or_not chip (SetBreak name at) name (break_set at) (part_of chip name) refl
    (λ p. (refl, append-nil (words_left p.stream))) (λ opened other apart. refl) refl refl
does chip (ClearBreak name at) =
    breaks_or_not chip (ClearBreak name at) name (break_cleared at) (part_of chip name) refl
    (λ p. (refl, append-nil (words_left p.stream))) (λ opened other apart. refl) refl refl
does chip (Piece name words) =
    breaks_or_not chip (Piece name words) name (piece_come words) (part_of chip name) refl
    (λ p. (refl, pick p.opened (name == name) (eq-eqb name name refl) p.stream))
    (λ opened other apart. none opened (name == other) (ne_eqb name other (λ e. apart (sym e))))
    refl refl
  where
    none : (opened b : Bool) → b ≡ false → (if opened && b then words else []) ≡ []
    none true b e = rw e refl
    none false b e = refl

    pick : (opened b : Bool) → b ≡ true → (stream : Option (List ℕ)) → words_left stream
        ++ (if opened && b then words else [])
        ≡ words_left (if opened then Some (words_left stream ++ words) else stream)
    pick true b e stream = rw e refl
    pick false b e stream = append-nil (words_left stream)
does chip (PassBreak name) =
    breaks_or_not chip (PassBreak name) name break_passed (part_of chip name) refl
    (λ p. (refl, append-nil (words_left p.stream))) (λ opened other apart. refl) refl refl

-- The node's part after the event.
pub part_here : (chip : Chip) (event : Event) (d : Does chip event)
    → part_of (happened chip event) d.name ≡ Some d.next
part_here chip event d =
    ap (λ c. part_of c d.name) d.leads
    ∙ get-set_here chip.parts (index_of d.name) d.next d.part d.there

pub part_else : (chip : Chip) (event : Event) (d : Does chip event) (name : ℕ)
    → length chip.parts ≡ 144 → (d.name ≡ name → ⊥)
    → part_of (happened chip event) name ≡ part_of chip name
part_else chip event d name full apart =
    ap (λ c. part_of c name) d.leads ∙ get-set_else chip.parts (index_of d.name)
    (index_of name) d.next (λ e. apart (one_place d.name name (subst (λ n. index_of d.name < n) full
    (slice_get_within chip.parts (index_of d.name) d.part d.there)) e))

-- a part after the event is the one that the event left, or an old one
pub record Here (chip : Chip) (event : Event) (d : Does chip event) (name : ℕ)
    (part : Part) : Type 0 where
  pub name_is : name ≡ d.name
  pub part_is : part ≡ d.next

pub record Else (chip : Chip) (event : Event) (d : Does chip event) (name : ℕ)
    (part : Part) : Type 0 where
  pub apart : d.name ≡ name → ⊥
  pub there : part_of chip name ≡ Some part

pub part_from : (chip : Chip) (event : Event) (d : Does chip event) (name : ℕ) (part : Part)
    → length chip.parts ≡ 144 → part_of (happened chip event) name ≡ Some part
    → Here chip event d name part ⊎ Else chip event d name part
part_from chip event d name part full e = by_name (cases_eq d.name name)
  where
    by_name : (d.name ≡ name) ⊎ (d.name ≡ name → ⊥)
        → Here chip event d name part ⊎ Else chip event d name part
    by_name (inl same) =
        inl (record {
          name_is = sym same;
          part_is = same_Some part d.next (sym e
              ∙ ap (λ n. part_of (happened chip event) n) (sym same) ∙ part_here chip event d);
        })
    by_name (inr apart) =
        inr (record { apart = apart; there = sym (part_else chip event d name full apart) ∙ e })

-- The moves of a node in the event.
pub moves_here : (chip : Chip) (event : Event) (d : Does chip event)
    → moves_of d.name (move_in chip event) ≡ move_in chip event
moves_here chip event d = rw d.makes (only d.outcome _ refl)
  where
    same : (n : ℕ) → (n == n) ≡ true
    same n = eq-eqb n n refl

    only : (o : Outcome) (m : Move) → m.node ≡ d.name
        → moves_of d.name (if_moved o m) ≡ if_moved o m
    only Moved m e = rw (e, same d.name) refl
    only Waits m e = refl
    only Held m e = refl
    only Stopped m e = refl

pub moves_else : (chip : Chip) (event : Event) (d : Does chip event) (name : ℕ)
    → (d.name ≡ name → ⊥) → moves_of name (move_in chip event) ≡ []
moves_else chip event d name apart = rw d.makes (none d.outcome _ refl)
  where
    none : (o : Outcome) (m : Move) → m.node ≡ d.name → moves_of name (if_moved o m) ≡ []
    none Moved m e = rw (e, ne_eqb d.name name apart) refl
    none Waits m e = refl
    none Held m e = refl
    none Stopped m e = refl

-- the state of a node after moves
abbrev pub replay : State → List Move → State
replay at [] = at
replay at (move ∷ moves) = replay (stand_after move.asked move.found at) moves

-- the node's state is that after its moves in the event
pub stand_once : (chip : Chip) (event : Event) (d : Does chip event)
    → d.next.state ≡ replay d.part.state (move_in chip event)
stand_once chip event d =
    d.stands ∙ by_outcome d.outcome refl ∙ ap (replay d.part.state) (sym d.makes)
  where
    by_outcome : (o : Outcome) → d.outcome ≡ o → stand_after d.asked d.found d.part.state
        ≡ replay d.part.state (if_moved d.outcome (record {
          node = d.name;
          asked = d.asked;
          found = d.found;
          picked = picked_by (need_of d.part.state) d.side;
        }))
    by_outcome Moved e = rw e refl
    by_outcome Waits e = rw e ((d.quiet (λ f. cc)).stays d.part.state)
    by_outcome Held e = rw e ((d.quiet (λ f. cc)).stays d.part.state)
    by_outcome Stopped e = rw e ((d.quiet (λ f. cc)).stays d.part.state)

-- the node's steps are more by its moves
pub steps_once : (chip : Chip) (event : Event) (d : Does chip event)
    → d.next.state.steps ≡ d.part.state.steps + length (move_in chip event)
steps_once chip event d =
    by_outcome d.outcome refl ∙ ap (λ l. d.part.state.steps + length l) (sym d.makes)
  where
    same : (d.outcome ≡ Moved → ⊥) → d.next.state.steps ≡ d.part.state.steps + 0
    same still =
        ap (λ s. s.steps) (d.stands ∙ (d.quiet still).stays d.part.state) ∙ sym (add-zero _)

    by_outcome : (o : Outcome) → d.outcome ≡ o
        → d.next.state.steps ≡ d.part.state.steps + length (if_moved d.outcome (record {
          node = d.name;
          asked = d.asked;
          found = d.found;
          picked = picked_by (need_of d.part.state) d.side;
        }))
    by_outcome Moved e = rw e (d.counts e)
    by_outcome Waits e = rw e (same (λ f. cc))
    by_outcome Held e = rw e (same (λ f. cc))
    by_outcome Stopped e = rw e (same (λ f. cc))
