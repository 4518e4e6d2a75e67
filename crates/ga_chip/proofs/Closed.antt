-- The nodes of a closed set are stuck.
use Rattle.std.proofs.Common.{◌≡◌, ◌≢◌, ℕ, ◌==◌, Bool, true, false, List, [], ◌∷◌, ◌++◌, ◌⊎◌, inl, inr, length, set, Option, Some, None, refl, sym, ap, ap₂, ◌∙◌, subst, arith, append-nil}
use Rattle.std.specs.Prelude.{◌||◌, not, is_some, if◌then◌else◌}
use Rattle.std.specs.List.{list_all}
use Rattle.std.specs.Option.{option_and_then, option_map_or}
use Rattle.std.proofs.lemmas.Bool.{and_from, and_parts, cases_eq, eq-eqb, eqb-true, false≢true, not-true}
use Rattle.std.proofs.lemmas.List.{get_or-set_other, set-get_or}
use Rattle.std.proofs.lemmas.Option.{same_Some}
use Rattle.ga_place.specs.Cell.{cell_of, read_cell}
use Rattle.ga_place.specs.Node.{IsNodeName}
use Rattle.ga_place.specs.Side.{SIDES, has_side, is_among, neighbour_of, one_side}
use Rattle.ga_place.specs.declared.side.Side.{Side}
use Rattle.ga_place.specs.declared.side.Side.TheVariants.{Right, Down, Left, Up}
use Rattle.ga_place.specs.declared.side.Sides.{Sides}
use Rattle.ga_place.proofs.Cells.{neighbour_there, one_reader, one_writer, reader_there, writer_there}
use Rattle.ga_place.proofs.SideLemmas.{neighbour_of-IsNodeName}
use Rattle.ga_node.specs.Need.{need_of}
use Rattle.ga_node.specs.declared.need.Need.{Need}
use Rattle.ga_node.specs.declared.need.Need.TheVariants as need
use Rattle.ga_chip.specs.declared.outcome.Outcome.{Outcome}
use Rattle.ga_chip.specs.declared.outcome.Outcome.TheVariants.{Held, Moved, Stopped, Waits}
use Rattle.ga_chip.specs.Part.{Part, Asks, Nothing, Own, Feed, Post, Take, Check, after, asks, asks_by, at_cell, input_of, looked_at, take_from}
use Rattle.ga_chip.specs.Chip.{Chip, cells_after, found_by, part_of, pending_in, tried}
use Rattle.ga_chip.specs.Run.{Event, Move, happened, if_moved, is_open, move_in, moves, moves_of, piece_of, pieces, words_left}
use Rattle.ga_chip.specs.Legal.{IsLegal}
use Rattle.ga_chip.specs.Stuck.{IsClosed, IsUnfed, LeavesStuck, StandsStill, Stuck, is_dry, is_full, is_shut, is_stuck, is_stuck_by, is_unread}
use Rattle.ga_chip.proofs.Asked.{among_looked}
use Rattle.ga_chip.proofs.Events.{Does, DoesNothing, Else, Here, bared, does, moves_else, moves_here, part_else, part_from, part_here}
use Rattle.ga_chip.proofs.Kept.{fits_name, has_name, legal_kept}
use Rattle.ga_chip.proofs.Parts.{Fits, Passes, Quiet, moved_asks, passed_after}
use Rattle.ga_chip.proofs.Runs.{moves_of-append}
use Rattle.ga_chip.proofs.Stays.{each_side}
use Rattle.ga_chip.proofs.Streams.{open_there}
use Rattle.ga_chip.proofs.Tries.{tried_there}

-- a test that holds at each side
pub at_each : (test : Side → Bool) → list_all test SIDES ≡ true → (side : Side) → test side ≡ true
at_each test all =
    let one = and_parts _ _ all in
    let two = and_parts _ _ one.1 in
    let three = and_parts _ _ two.1 in
    each_side (λ side. test side ≡ true) one.0 two.0 three.0 (and_parts _ _ three.1).0

pub from_each : (test : Side → Bool) → ((side : Side) → test side ≡ true)
    → list_all test SIDES ≡ true
from_each test each =
    and_from _ _ (each Right)
    (and_from _ _ (each Down) (and_from _ _ (each Left) (and_from _ _ (each Up) refl)))

-- a side among those at which a stuck node takes
taken_dry : (inside : ℕ → Bool) (cells : List (Option ℕ)) (name : ℕ) (sides : Sides)
    → list_all (λ side. not (is_among side sides) || is_dry inside cells name side) SIDES ≡ true
    → (side : Side) → is_among side sides ≡ true → is_dry inside cells name side ≡ true
taken_dry inside cells name sides all side among =
    sym (ap (λ b. not b || is_dry inside cells name side) among)
    ∙ at_each (λ side. not (is_among side sides) || is_dry inside cells name side) all side

-- What a stuck node would find doesn't let it go on.
abbrev IsBlocked : Asks → List (Option ℕ) → Type 0
IsBlocked q cells = Passes q (found_by q cells) → ⊥

dry_empty : (inside : ℕ → Bool) (cells : List (Option ℕ)) (name : ℕ) (side : Side)
    → is_dry inside cells name side ≡ true → is_full cells (read_cell name side) ≡ false
dry_empty inside cells name side dry = by (neighbour_of name side) refl
  where
    by : (o : Option ℕ) → neighbour_of name side ≡ o → is_full cells (read_cell name side) ≡ false
    by None e = ap (λ o. is_full cells (option_and_then (λ other. cell_of other side) o)) e
    by (Some other) e =
        not-true _ (and_parts _ _
        (ap (is_shut inside (not (is_full cells (read_cell name side)))) (sym e) ∙ dry)).0

blocked_at : (cells : List (Option ℕ)) (side : Side) (at : Option ℕ) → is_full cells at ≡ false
    → IsBlocked (at_cell (Take side) at) cells
blocked_at cells side None empty = λ passed. passed
blocked_at cells side (Some cell) empty = λ passed. false≢true (sym empty ∙ ap is_some passed.1)

blocked_take : (inside : ℕ → Bool) (cells : List (Option ℕ)) (name : ℕ) (at : Option Side)
    → ((side : Side) → at ≡ Some side → is_dry inside cells name side ≡ true)
    → IsBlocked (take_from name at) cells
blocked_take inside cells name None dry = λ passed. passed
blocked_take inside cells name (Some side) dry =
    blocked_at cells side (read_cell name side) (dry_empty inside cells name side (dry side refl))

blocked_post : (cells : List (Option ℕ)) (name word : ℕ) (to : Side) (at : Option ℕ)
    → cell_of name to ≡ at → not (has_side name to) ≡ true
    → IsBlocked (at_cell (λ it. Post to it word) at) cells
blocked_post cells name word to None here lacks = λ passed. passed
blocked_post cells name word to (Some cell) here lacks =
    let there = neighbour_there name cell to here in
    absurd (false≢true (sym (not-true _ lacks) ∙ ap is_some there.1))

blocked_check : (inside : ℕ → Bool) (cells : List (Option ℕ)) (name : ℕ) (to : Side) (at : Option ℕ)
    → cell_of name to ≡ at → is_unread inside cells name to ≡ true
    → IsBlocked (at_cell (Check to) at) cells
blocked_check inside cells name to None here unread = λ passed. passed
blocked_check inside cells name to (Some cell) here unread =
    let there = neighbour_there name cell to here in
    let full : is_full cells (cell_of name to) ≡ true = (and_parts _ _
    (ap (is_shut inside (is_full cells (cell_of name to))) (sym there.1) ∙ unread)).0 in
    λ passed. false≢true (sym (ap is_some passed) ∙ ap (is_full cells) (sym here) ∙ full)

blocked_input : (cells : List (Option ℕ)) (stream : Option (List ℕ))
    → (length (words_left stream) == 0) ≡ true → IsBlocked (input_of stream) cells
blocked_input cells (Some (word ∷ rest)) none =
    let empty = eqb-true _ _ none in absurd (omega arith)
blocked_input cells (Some []) none = λ passed. passed
blocked_input cells None none = λ passed. passed

blocked_by : (inside : ℕ → Bool) (cells : List (Option ℕ)) (name : ℕ) (stream : Option (List ℕ))
    (n : Need) (side : Side) → is_stuck_by inside cells name (words_left stream) n ≡ true
    → IsBlocked (asks_by n name stream side) cells
blocked_by inside cells name stream need.Own side stuck = absurd (false≢true stuck)
blocked_by inside cells name stream (need.Take sides) side stuck =
    blocked_take inside cells name (looked_at (one_side sides) sides side) (λ from looked.
    taken_dry inside cells name sides stuck from (among_looked sides side from looked))
blocked_by inside cells name stream (need.Post to word) side stuck =
    blocked_post cells name word to (cell_of name to) refl stuck
blocked_by inside cells name stream (need.Check to) side stuck =
    blocked_check inside cells name to (cell_of name to) refl stuck
blocked_by inside cells name stream need.Input side stuck = blocked_input cells stream stuck
blocked_by inside cells name stream (need.Stopped stop) side stuck = λ passed. passed

blocked : (inside : ℕ → Bool) (cells : List (Option ℕ)) (part : Part) (side : Side)
    → is_stuck inside cells part ≡ true
    → IsBlocked (asks_by (need_of part.state) part.state.node part.stream side) cells
unfolding is_stuck
blocked inside cells part side stuck =
    blocked_by inside cells part.state.node part.stream (need_of part.state) side stuck

-- A node of a closed set is there, and is stuck.
pub record InClosed (chip : Chip) (inside : ℕ → Bool) (name : ℕ) : Type 0 where
  pub part : Part
  pub there : part_of chip name ≡ Some part
  pub stuck : is_stuck inside chip.cells part ≡ true

pub in_closed : (chip : Chip) (inside : ℕ → Bool) (name : ℕ) → IsClosed chip inside
    → inside name ≡ true → InClosed chip inside name
in_closed chip inside name closed within = by (part_of chip name) refl
  where
    by : (o : Option Part) → part_of chip name ≡ o → InClosed chip inside name
    by None e =
        absurd (false≢true (sym (ap (λ o. option_map_or (is_stuck inside chip.cells) o false) e)
        ∙ closed name within))
    by (Some part) e = record {
      part = part;
      there = e;
      stuck =
          sym (ap (λ o. option_map_or (is_stuck inside chip.cells) o false) e) ∙ closed name within;
    }

-- so a try of it isn't Moved
pub closed_still : (chip : Chip) (inside : ℕ → Bool) (name : ℕ) (side : Side) → IsClosed chip inside
    → inside name ≡ true → (tried chip name side).0 ≢ Moved
closed_still chip inside name side closed within = λ moved.
    let it = in_closed chip inside name closed within in
    let goes : (after it.part side (found_by (asks it.part side) chip.cells)).0 ≡ Moved =
    ap (λ r. r.0) (sym (tried_there chip name side it.part it.there)) ∙ moved in
    blocked inside chip.cells it.part side it.stuck (subst (λ q. Passes q (found_by q chip.cells))
    (moved_asks it.part side _ goes) (passed_after it.part side _ goes))

-- nor is an event that names it
unmoved : (chip : Chip) (event : Event) (inside : ℕ → Bool) (d : Does chip event)
    → IsClosed chip inside → inside d.name ≡ true → d.outcome ≡ Moved → ⊥
unmoved chip event inside d closed within moved =
    let it = in_closed chip inside d.name closed within in
    let stuck : is_stuck inside chip.cells d.part ≡ true = subst (λ p. is_stuck inside chip.cells p
    ≡ true) (same_Some it.part d.part (sym it.there ∙ d.there)) it.stuck in
    blocked inside chip.cells d.part d.side stuck (subst (λ q. Passes q (found_by q chip.cells))
    (d.settled moved) (subst (Passes d.asked) d.looks (d.passed moved)))

-- what isn't Moved leaves the cells
quiet_cells : (q : Asks) (found : Option ℕ) (cells : List (Option ℕ)) → Quiet q found
    → found ≡ found_by q cells → cells_after q cells ≡ cells
quiet_cells (Nothing outcome) found cells quiet looks = refl
quiet_cells Own found cells quiet looks = refl
quiet_cells (Feed fed) found cells quiet looks = refl
quiet_cells (Check side cell) found cells quiet looks = refl
quiet_cells (Post side cell word) found cells quiet looks =
    let none : word ∷ [] ≡ [] =
    sym (ap (λ b. if b then word ∷ [] else []) (eq-eqb cell cell refl)) ∙ quiet.posts cell in
    absurd cc
quiet_cells (Take side cell) None cells quiet looks =
    ap (set cells cell) looks ∙ set-get_or cells cell None
quiet_cells (Take side cell) (Some word) cells quiet looks =
    let none : word ∷ [] ≡ [] =
    sym (ap (λ b. if b then word ∷ [] else []) (eq-eqb cell cell refl)) ∙ quiet.takes cell in
    absurd cc

-- A cell keeps its word in a try of a node that neither writes nor reads it.
cell_else : (q : Asks) (n : Need) (cells : List (Option ℕ)) (who writer reader cell : ℕ)
    (side : Side) → Fits q n who → IsNodeName who → IsNodeName reader
    → cell_of writer side ≡ Some cell → read_cell reader side ≡ Some cell → (who ≡ writer → ⊥)
    → (who ≡ reader → ⊥) → pending_in (cells_after q cells) cell ≡ pending_in cells cell
cell_else (Nothing outcome) n cells who writer reader cell side fits named named' writes reads
    no_writer no_reader =
    refl
cell_else Own n cells who writer reader cell side fits named named' writes reads no_writer
    no_reader =
    refl
cell_else (Feed fed) n cells who writer reader cell side fits named named' writes reads no_writer
    no_reader =
    refl
cell_else (Check to at) n cells who writer reader cell side fits named named' writes reads no_writer
    no_reader =
    refl
cell_else (Post to at word) n cells who writer reader cell side fits named named' writes reads
    no_writer no_reader =
    get_or-set_other cells at cell (Some word) None
    (λ e. no_writer (one_writer who writer cell to side (fits.0 ∙ ap Some (sym e)) writes).0)
cell_else (Take from at) n cells who writer reader cell side fits named named' writes reads
    no_writer no_reader =
    get_or-set_other cells at cell None None (λ e. no_reader
    (one_reader who reader cell from side named named' (fits.1 ∙ ap Some (sym e)) reads).0)

full_same : (cells left : List (Option ℕ)) (at : Option ℕ)
    → ((cell : ℕ) → at ≡ Some cell → pending_in left cell ≡ pending_in cells cell)
    → is_full left at ≡ is_full cells at
full_same cells left None same = refl
full_same cells left (Some cell) same = ap is_some (same cell refl)

outside : (inside : ℕ → Bool) (who name : ℕ) → inside who ≡ false → inside name ≡ true → who ≡ name
    → ⊥
outside inside who name out within same = false≢true (sym out ∙ ap inside same ∙ within)

-- a side that is shut stays so, if the cell there is as before
shut_kept : (inside : ℕ → Bool) (waits now : Bool) (at : Option ℕ)
    → ((other : ℕ) → at ≡ Some other → inside other ≡ true → now ≡ waits)
    → is_shut inside waits at ≡ true → is_shut inside now at ≡ true
shut_kept inside waits now None same shut = refl
shut_kept inside waits now (Some other) same shut =
    let both = and_parts waits (inside other) shut in
    and_from now (inside other) (same other refl both.1 ∙ both.0) both.1

-- A try of a node outside the set, that asks so.
record Outside (inside : ℕ → Bool) (q : Asks) (n : Need) (who : ℕ) : Type 0 where
  fits : Fits q n who
  named : IsNodeName who
  out : inside who ≡ false

dry_kept : (inside : ℕ → Bool) (q : Asks) (n : Need) (who : ℕ) (cells : List (Option ℕ)) (name : ℕ)
    (side : Side) → Outside inside q n who → IsNodeName name → inside name ≡ true
    → is_dry inside cells name side ≡ true → is_dry inside (cells_after q cells) name side ≡ true
dry_kept inside q n who cells name side o named within dry =
    shut_kept inside _ _ (neighbour_of name side) same dry
  where
    same : (other : ℕ) → neighbour_of name side ≡ Some other → inside other ≡ true
        → not (is_full (cells_after q cells) (read_cell name side))
        ≡ not (is_full cells (read_cell name side))
    same other next within' =
        ap not (full_same cells (cells_after q cells) (read_cell name side) (λ cell reads.
        let writer = writer_there name cell side reads in
        let writes : cell_of other side ≡ Some cell =
        ap (λ m. cell_of m side) (same_Some other writer.0 (sym next ∙ writer.1)) ∙ writer.2 in
        cell_else q n cells who other name cell side o.fits o.named named writes reads
        (outside inside who other o.out within') (outside inside who name o.out within)))

unread_kept : (inside : ℕ → Bool) (q : Asks) (n : Need) (who : ℕ) (cells : List (Option ℕ))
    (name : ℕ) (side : Side) → Outside inside q n who → IsNodeName name → inside name ≡ true
    → is_unread inside cells name side ≡ true
    → is_unread inside (cells_after q cells) name side ≡ true
unread_kept inside q n who cells name side o named within unread =
    shut_kept inside _ _ (neighbour_of name side) same unread
  where
    same : (other : ℕ) → neighbour_of name side ≡ Some other → inside other ≡ true
        → is_full (cells_after q cells) (cell_of name side) ≡ is_full cells (cell_of name side)
    same other next within' =
        full_same cells (cells_after q cells) (cell_of name side) (λ cell writes.
        cell_else q n cells who name other cell side o.fits o.named (neighbour_of-IsNodeName name
        other side named next) writes (reader_there name other cell side named writes next)
        (outside inside who name o.out within) (outside inside who other o.out within'))

taken_kept : (inside : ℕ → Bool) (cells left : List (Option ℕ)) (name : ℕ) (side : Side)
    (among : Bool) → (is_dry inside cells name side ≡ true → is_dry inside left name side ≡ true)
    → not among || is_dry inside cells name side ≡ true
    → not among || is_dry inside left name side ≡ true
taken_kept inside cells left name side true kept dry = kept dry
taken_kept inside cells left name side false kept dry = refl

-- A node of the set is stuck still.
stuck_kept_by : (inside : ℕ → Bool) (q : Asks) (n : Need) (who : ℕ) (cells : List (Option ℕ))
    (name : ℕ) (words : List ℕ) (m : Need) → Outside inside q n who → IsNodeName name
    → inside name ≡ true → is_stuck_by inside cells name words m ≡ true
    → is_stuck_by inside (cells_after q cells) name words m ≡ true
stuck_kept_by inside q n who cells name words need.Own o named within stuck = stuck
stuck_kept_by inside q n who cells name words (need.Take sides) o named within stuck =
    from_each (λ side. not (is_among side sides) || is_dry inside (cells_after q cells) name side)
    (λ side. taken_kept inside cells (cells_after q cells) name side (is_among side sides)
    (dry_kept inside q n who cells name side o named within)
    (at_each (λ side. not (is_among side sides) || is_dry inside cells name side) stuck side))
stuck_kept_by inside q n who cells name words (need.Post to word) o named within stuck = stuck
stuck_kept_by inside q n who cells name words (need.Check to) o named within stuck =
    unread_kept inside q n who cells name to o named within stuck
stuck_kept_by inside q n who cells name words need.Input o named within stuck = stuck
stuck_kept_by inside q n who cells name words (need.Stopped stop) o named within stuck = refl

stuck_kept : (inside : ℕ → Bool) (q : Asks) (n : Need) (who : ℕ) (cells : List (Option ℕ))
    (part : Part) → Outside inside q n who → IsNodeName part.state.node
    → inside part.state.node ≡ true → is_stuck inside cells part ≡ true
    → is_stuck inside (cells_after q cells) part ≡ true
unfolding is_stuck
stuck_kept inside q n who cells part o named within stuck =
    stuck_kept_by inside q n who cells part.state.node (words_left part.stream)
    (need_of part.state) o named within stuck

-- so is one that doesn't move, as a use of its breakpoints leaves it
stuck_still : (inside : ℕ → Bool) (cells : List (Option ℕ)) (part now : Part) → StandsStill part now
    → is_stuck inside cells part ≡ true → is_stuck inside cells now ≡ true
unfolding is_stuck
stuck_still inside cells part now still stuck =
    ap₂ (λ s words. is_stuck_by inside cells s.node words (need_of s)) still.state still.stream
    ∙ stuck

pub still_same : (part : Part) → StandsStill part part
still_same part = record { state = refl; stream = refl; opened = refl; written = refl; read = refl }

pub still_then : (part next now : Part) → StandsStill part next → StandsStill next now
    → StandsStill part now
still_then part next now a b = record {
  state = b.state ∙ a.state;
  stream = b.stream ∙ a.stream;
  opened = b.opened ∙ a.opened;
  written = b.written ∙ a.written;
  read = b.read ∙ a.read;
}

-- an event that names a node of the set
still_named : (chip : Chip) (event : Event) (inside : ℕ → Bool) (d : Does chip event)
    → IsClosed chip inside → inside d.name ≡ true → piece_of d.part.opened d.name event ≡ []
    → StandsStill d.part d.next
still_named chip event inside d closed within unfed =
    let rests : bared d.next ≡ bared d.part = d.rests (unmoved chip event inside d closed within) in
    let quiet = d.quiet (unmoved chip event inside d closed within) in
    record {
      state = ap (λ p. p.state) rests;
      stream = ap (λ l. l ++ words_left d.next.stream) (sym quiet.feeds) ∙ sym d.fed
          ∙ ap (λ l. words_left d.part.stream ++ l) unfed ∙ append-nil _;
      opened = ap (λ p. p.opened) rests;
      written = ap (λ p. p.written) rests;
      read = ap (λ p. p.read) rests;
    }

-- An event leaves the nodes of the set.
record Leaves (chip : Chip) (event : Event) (inside : ℕ → Bool) : Type 0 where
  parts : (name : ℕ) (part now : Part) → inside name ≡ true → part_of chip name ≡ Some part
      → part_of (happened chip event) name ≡ Some now → StandsStill part now
  moves : (name : ℕ) → inside name ≡ true → moves_of name (move_in chip event) ≡ []
  closed : IsClosed (happened chip event) inside

abbrev UnfedBy : Chip → Event → (ℕ → Bool) → Type 0
UnfedBy chip event inside =
    (name : ℕ) (part : Part) → inside name ≡ true → part_of chip name ≡ Some part
    → piece_of part.opened name event ≡ []

-- the set is closed after an event, if each of its nodes is stuck then
closed_at : (chip : Chip) (inside : ℕ → Bool) (name : ℕ) (part : Part) (cells : List (Option ℕ))
    → part_of chip name ≡ Some part → chip.cells ≡ cells → is_stuck inside cells part ≡ true
    → option_map_or (is_stuck inside chip.cells) (part_of chip name) false ≡ true
closed_at chip inside name part cells there same stuck =
    ap₂ (λ cs o. option_map_or (is_stuck inside cs) o false) same there ∙ stuck

no_move : (outcome : Outcome) (move : Move) → (outcome ≡ Moved → ⊥) → if_moved outcome move ≡ []
no_move Moved move still = absurd (still refl)
no_move Waits move still = refl
no_move Held move still = refl
no_move Stopped move still = refl

leaves_named : (chip : Chip) (event : Event) (inside : ℕ → Bool) (d : Does chip event)
    → IsLegal chip → IsClosed chip inside → UnfedBy chip event inside → inside d.name ≡ true
    → Leaves chip event inside
leaves_named chip event inside d legal closed unfed within = record {
  parts = λ name part now member there there'. by_part name part now there
      (part_from chip event d name now legal.parts there');
  moves = λ name member. by_name name (cases_eq d.name name);
  closed = λ name member. by_closed name member (cases_eq d.name name);
}
  where
    rests : d.outcome ≡ Moved → ⊥
    rests = unmoved chip event inside d closed within

    still : StandsStill d.part d.next
    still = still_named chip event inside d closed within (unfed d.name d.part within d.there)

    by_part : (name : ℕ) (part now : Part) → part_of chip name ≡ Some part
        → Here chip event d name now ⊎ Else chip event d name now → StandsStill part now
    by_part name part now there (inl h) =
        let old : d.part ≡ part =
        same_Some d.part part (sym d.there ∙ ap (part_of chip) (sym h.name_is) ∙ there) in
        subst (λ p. StandsStill p now) old (subst (StandsStill d.part) (sym h.part_is) still)
    by_part name part now there (inr h) =
        subst (StandsStill part) (same_Some part now (sym there ∙ h.there)) (still_same part)

    by_name : (name : ℕ) → (d.name ≡ name) ⊎ (d.name ≡ name → ⊥)
        → moves_of name (move_in chip event) ≡ []
    by_name name (inl same) =
        ap (λ n. moves_of n (move_in chip event)) (sym same) ∙ moves_here chip event d ∙ d.makes
        ∙ no_move d.outcome _ rests
    by_name name (inr apart) = moves_else chip event d name apart

    cells : (happened chip event).cells ≡ chip.cells
    cells =
        ap (λ c. c.cells) d.leads ∙ quiet_cells d.asked d.found chip.cells (d.quiet rests) d.looks

    by_closed : (name : ℕ) → inside name ≡ true → (d.name ≡ name) ⊎ (d.name ≡ name → ⊥)
        → option_map_or (is_stuck inside (happened chip event).cells)
        (part_of (happened chip event) name) false ≡ true
    by_closed name member (inl same) =
        let it = in_closed chip inside d.name closed within in
        let stuck : is_stuck inside chip.cells d.part ≡ true = subst (λ p. is_stuck inside
        chip.cells p ≡ true) (same_Some it.part d.part (sym it.there ∙ d.there)) it.stuck in
        closed_at (happened chip event) inside name d.next chip.cells
        (ap (part_of (happened chip event)) (sym same) ∙ part_here chip event d) cells
        (stuck_still inside chip.cells d.part d.next still stuck)
    by_closed name member (inr apart) =
        let it = in_closed chip inside name closed member in
        closed_at (happened chip event) inside name it.part chip.cells
        (part_else chip event d name legal.parts apart ∙ it.there) cells it.stuck

leaves_outside : (chip : Chip) (event : Event) (inside : ℕ → Bool) (d : Does chip event)
    → IsLegal chip → IsClosed chip inside → inside d.name ≡ false → Leaves chip event inside
leaves_outside chip event inside d legal closed out = record {
  parts = λ name part now member there there'. subst (StandsStill part) (same_Some part now
      (sym there ∙ sym (part_else chip event d name legal.parts (apart name member)) ∙ there'))
      (still_same part);
  moves = λ name member. moves_else chip event d name (apart name member);
  closed = λ name member. by name member (in_closed chip inside name closed member);
}
  where
    apart : (name : ℕ) → inside name ≡ true → d.name ≡ name → ⊥
    apart name member = outside inside d.name name out member

    tried_outside : Outside inside d.asked (need_of d.part.state) d.name
    tried_outside = record {
      fits = fits_name chip event d legal;
      named = has_name chip d.name d.part legal d.there;
      out = out;
    }

    by : (name : ℕ) → inside name ≡ true → InClosed chip inside name
        → option_map_or (is_stuck inside (happened chip event).cells)
        (part_of (happened chip event) name) false ≡ true
    by name member it =
        let named : it.part.state.node ≡ name = legal.named name it.part it.there in
        closed_at (happened chip event) inside name it.part (cells_after d.asked chip.cells)
        (part_else chip event d name legal.parts (apart name member)
        ∙ it.there) (ap (λ c. c.cells) d.leads)
        (stuck_kept inside d.asked (need_of d.part.state) d.name chip.cells it.part tried_outside
        (subst IsNodeName (sym named) (has_name chip name it.part legal it.there))
        (ap inside named ∙ member) it.stuck)

leaves_none : (chip : Chip) (event : Event) (inside : ℕ → Bool) → IsClosed chip inside
    → DoesNothing chip event → Leaves chip event inside
leaves_none chip event inside closed none = record {
  parts = λ name part now member there there'. subst (StandsStill part) (same_Some part now
      (sym there ∙ ap (λ c. part_of c name) (sym none.0) ∙ there')) (still_same part);
  moves = λ name member. ap (moves_of name) none.1;
  closed = subst (λ c. IsClosed c inside) (sym none.0) closed;
}

leaves : (chip : Chip) (event : Event) (inside : ℕ → Bool) → IsLegal chip → IsClosed chip inside
    → UnfedBy chip event inside → Leaves chip event inside
leaves chip event inside legal closed unfed = by (does chip event)
  where
    by_set : (d : Does chip event) (b : Bool) → inside d.name ≡ b → Leaves chip event inside
    by_set d true e = leaves_named chip event inside d legal closed unfed e
    by_set d false e = leaves_outside chip event inside d legal closed e

    by : DoesNothing chip event ⊎ Does chip event → Leaves chip event inside
    by (inl none) = leaves_none chip event inside closed none
    by (inr d) = by_set d (inside d.name) refl

-- two lists that make none are none
none_of : {A : Type 0} (xs ys : List A) → xs ++ ys ≡ [] → (xs ≡ []) × (ys ≡ [])
none_of [] ys e = (refl, e)
none_of (x ∷ xs) ys e = absurd cc

-- The first event of a run, and the rest of it.
first_leaves : (chip : Chip) (inside : ℕ → Bool) (event : Event) (events : List Event)
    → IsLegal chip → IsClosed chip inside → IsUnfed chip (event ∷ events) inside
    → Leaves chip event inside
first_leaves chip inside event events legal closed unfed =
    leaves chip event inside legal closed (λ name part member there. subst (λ b. piece_of b name
    event ≡ []) (open_there chip name part there) (none_of (piece_of (is_open chip name) name event)
    (pieces (is_open chip name) name events) (unfed name member)).0)

still_unfed : (chip : Chip) (inside : ℕ → Bool) (event : Event) (events : List Event)
    → IsClosed chip inside → Leaves chip event inside → IsUnfed chip (event ∷ events) inside
    → IsUnfed (happened chip event) events inside
still_unfed chip inside event events closed first unfed name member =
    subst (λ b. pieces b name events ≡ []) same_open (none_of (piece_of (is_open chip name) name
    event) (pieces (is_open chip name) name events) (unfed name member)).1
  where
    old : InClosed chip inside name
    old = in_closed chip inside name closed member

    new : InClosed (happened chip event) inside name
    new = in_closed (happened chip event) inside name first.closed member

    same_open : is_open chip name ≡ is_open (happened chip event) name
    same_open =
        open_there chip name old.part old.there
        ∙ sym (first.parts name old.part new.part member old.there new.there).opened
        ∙ sym (open_there (happened chip event) name new.part new.there)

leaves_more : (chip : Chip) (inside : ℕ → Bool) (event : Event) (events : List Event)
    → Leaves chip event inside → LeavesStuck (happened chip event) events inside
    → LeavesStuck chip (event ∷ events) inside
leaves_more chip inside event events first rest = record {
  parts = λ name part now member there there'.
      let mid = in_closed (happened chip event) inside name first.closed member in
      still_then part mid.part now (first.parts name part mid.part member there mid.there)
      (rest.parts name mid.part now member mid.there there');
  moves =
      λ name member. moves_of-append name (move_in chip event) (moves (happened chip event) events)
      ∙ ap₂ (λ ms more. ms ++ more) (first.moves name member) (rest.moves name member);
  tries = rest.tries;
  closed = rest.closed;
}

pub stuck : Stuck
stuck chip inside [] legal closed unfed = record {
  parts = λ name part now member there there'. subst (StandsStill part)
      (same_Some part now (sym there ∙ there')) (still_same part);
  moves = λ name member. refl;
  tries = λ name side member. closed_still chip inside name side closed member;
  closed = closed;
}
stuck chip inside (event ∷ events) legal closed unfed =
    let first = first_leaves chip inside event events legal closed unfed in
    leaves_more chip inside event events first
    (stuck (happened chip event) inside events (legal_kept chip event legal) first.closed
    (still_unfed chip inside event events closed first unfed))
