-- Each step keeps the rule: it enters one try behind the run.
use Rattle.std.proofs.Common.{◌≡◌, ◌≢◌, ℕ, zero, suc, ◌+◌, ◌<◌, ◌^◌, Bool, true, ◌⊎◌, inl, inr, List, [], ◌∷◌, ◌++◌, length, Option, Some, None, set, get_or, refl, sym, ap, subst, ◌∙◌, arith}
use Rattle.std.specs.Prelude.{if◌then◌else◌}
use Rattle.std.proofs.lemmas.Bool.{cases_eq, ne_eqb}
use Rattle.std.proofs.lemmas.List.{length-set, set-get_or}
use Rattle.std.proofs.lemmas.Option.{none-some, same_Some, slice_get_within}
use mathlib.Core.Option as home
use mathlib.Core.Option.{some, some-injective, some-ne-none}
use lib.ListN.{get_elem?}
use Rattle.atomic_table.specs.Table.{Act, Allows, Me, State, Valid, carried_after, keeps, stepped}
use Rattle.atomic_table.proofs.Lists.{at_set, set_again, set_else, set_here}
use Rattle.ga_place.specs.Cell.{index_of}
use Rattle.ga_place.specs.Node.{IsNodeName}
use Rattle.ga_place.proofs.Cells.{is_node, one_place}
use Rattle.ga_place.specs.declared.side.Side.{Side}
use Rattle.ga_chip.specs.declared.outcome.Try.{Try}
use Rattle.ga_chip.specs.Part.{Asks, Check, Feed, Nothing, Own, Part, Post, Take, after, asks}
use Rattle.ga_chip.specs.Asks.{told_as}
use Rattle.ga_chip.proofs.Asked.{told_check, told_post, told_take}
use Rattle.ga_chip.specs.Chip.{Chip, cells_after, found_by, part_of, pending_in}
use Rattle.ga_chip.specs.Run.{ran, sides_tried, tries_of}
use Rattle.ga_chip.proofs.Lists.{get-set_here, get-set_else}
use Rattle.ga_port.specs.declared.seat.Holding.{Holding}
use Rattle.ga_port.specs.Seat.{kept, kept_after, tried_in}
use Rattle.ga_port.specs.Cells.{AsksForNoCell, AsksToCheck, AsksToPost, AsksToTake, is_off_cells}
use Rattle.ga_port.specs.Rule.{AreSmall, Holds, IsOf, row_of, word_of}
use Rattle.ga_port.specs.inner.Entering.{Enters, EntersEmpty, EntersFound, IsCellWord, pending_of, place_of}
use Rattle.ga_port.proofs.Nodes as nodes
use Rattle.ga_port.proofs.Rows.{empties_again, held_small, held_word, row_read, row_write, small_set}
use Rattle.ga_port.proofs.Runs.{happened_at, ran_push}
use Rattle.ga_chip.proofs.Sides.{tried_else, tried_here}

pub at_bound : {A : Type 0} (xs : List A) (i : ℕ) (x : A) → get_elem? xs i ≡ some x → i < length xs
at_bound [] i x e = absurd (some-ne-none x (sym e))
at_bound (y ∷ xs) zero x e = omega arith
at_bound (y ∷ xs) (suc i) x e = let below : i < length xs = at_bound xs i x e in omega arith

-- the parts after a try
abbrev pub parts_after : List Part → Holding → Try → Option ℕ → List Part
parts_after parts one what found = set parts (index_of what.node) (after one.part what.side found).1

-- a node that a seat has has a place
pub place_below : (chip : Chip) (tries : List Try)
    (owner : ℕ → ℕ) (s : State ℕ (List (Option Holding))) (name : ℕ) (part : Part)
    → IsOf chip tries owner s → part_of chip name ≡ Some part → index_of name < 144
place_below chip tries owner s name part is e =
    subst (λ n. index_of name < n) is.nodes (slice_get_within chip.parts (index_of name) part e)

module _ (chip : Chip) (tries : List Try) (owner : ℕ → ℕ) (s : State ℕ (List (Option Holding)))
    (is : IsOf chip tries owner s) (id : ℕ) (view : List (Option Holding)) (one : Holding)
    (what : Try) (found : Option ℕ) (at : get_elem? s.views id ≡ some view)
    (has : kept view what.node ≡ Some one) where
  part_here : part_of chip what.node ≡ Some one.part
  part_here = is.parts id what.node view one at has

  below : index_of what.node < 144
  below = place_below chip tries owner s what.node one.part is part_here

  owns : owner what.node ≡ id
  owns = is.once id what.node view one at has

  -- an entry of a view is the node that was tried, or an old one
  record IsTouched (index name : ℕ) (entry : Holding) : Type 0 where
    name_is : name ≡ what.node
    id_is : index ≡ id
    entry_is : entry ≡ kept_after one what.side found

  record Other (index name : ℕ) (entry : Holding) : Type 0 where
    apart : name ≢ what.node
    old : List (Option Holding)
    at_old : get_elem? s.views index ≡ some old
    has_old : kept old name ≡ Some entry

  places_apart : (name : ℕ) → name ≢ what.node → index_of name ≢ index_of what.node
  places_apart name apart e = apart (sym (one_place what.node name below (sym e)))

  entry_of : (index name : ℕ) (now : List (Option Holding)) (entry : Holding)
      → get_elem? (set s.views id (tried_in view what found)) index ≡ some now
      → kept now name ≡ Some entry → IsTouched index name entry ⊎ Other index name entry
  entry_of index name now entry e h = by (at_set s.views id index (tried_in view what found) now e)
    where
      here : index ≡ id → kept (tried_in view what found) name ≡ Some entry → (name ≡ what.node)
          ⊎ (name ≡ what.node → ⊥) → IsTouched index name entry ⊎ Other index name entry
      here i h (inl same) =
          inl (record {
            name_is = same;
            id_is = i;
            entry_is = same_Some entry _ (sym h ∙ ap (kept (tried_in view what found)) same
                ∙ nodes.tried_here view what found one has);
          })
      here i h (inr apart) =
          inr (record {
            apart = apart;
            old = view;
            at_old = ap (get_elem? s.views) i ∙ at;
            has_old = sym (nodes.tried_else view what found name (places_apart name apart)) ∙ h;
          })

      by : ((index ≡ id) × (tried_in view what found ≡ now))
          ⊎ ((index ≢ id) × (get_elem? s.views index ≡ some now))
          → IsTouched index name entry ⊎ Other index name entry
      by (inl (i, same)) = here i (ap (λ v. kept v name) same ∙ h) (cases_eq name what.node)
      by (inr (other, old)) =
          inr (record {
            apart = λ same. other (sym (is.once index name now entry old h) ∙ ap owner same ∙ owns);
            old = now;
            at_old = old;
            has_old = h;
          })

  -- the chip after the try, if its cells become these
  parts_of : (index name : ℕ) (entry : Holding) (cells : List (Option ℕ))
      → IsTouched index name entry ⊎ Other index name entry
      → part_of (record { parts = parts_after chip.parts one what found; cells = cells }) name
      ≡ Some entry.part
  parts_of index name entry cells (inl t) =
      ap
      (part_of (record { parts = parts_after chip.parts one what found; cells = cells })) t.name_is
      ∙ get-set_here chip.parts (index_of what.node) _ one.part part_here
      ∙ ap (λ (k : Holding). Some k.part) (sym t.entry_is)
  parts_of index name entry cells (inr o) =
      get-set_else chip.parts (index_of what.node) (index_of name) _
      (λ e. places_apart name o.apart (sym e))
      ∙ is.parts index name o.old entry o.at_old o.has_old

  sides_of : (index name : ℕ) (entry : Holding) → IsTouched index name entry
      ⊎ Other index name entry → entry.sides ≡ sides_tried name (tries ++ what ∷ [])
  sides_of index name entry (inl t) =
      ap (λ (k : Holding). k.sides) t.entry_is
      ∙ ap (λ l. l ++ what.side ∷ []) (is.sides id what.node view one at has)
      ∙ sym (tried_here tries what)
      ∙ ap (λ n. sides_tried n (tries ++ what ∷ [])) (sym t.name_is)
  sides_of index name entry (inr o) =
      is.sides index name o.old entry o.at_old o.has_old
      ∙ sym (tried_else name tries what (λ e. o.apart (sym e)))

  once_of : (index name : ℕ) (entry : Holding) → IsTouched index name entry ⊎ Other index name entry
      → owner name ≡ index
  once_of index name entry (inl t) = ap owner t.name_is ∙ owns ∙ sym t.id_is
  once_of index name entry (inr o) = is.once index name o.old entry o.at_old o.has_old

  -- a seat that has the node after the try
  abbrev At : ℕ → Type 0
  At name =
      (now : List (Option Holding)) × (entry : Holding)
      × (get_elem? (set s.views id (tried_in view what found)) (owner name) ≡ some now)
      × (kept now name ≡ Some entry)

  at_new : (name : ℕ) → owner name ≡ id → get_elem? (set s.views id (tried_in view what found))
      (owner name) ≡ some (tried_in view what found)
  at_new name mine =
      ap (get_elem? (set s.views id (tried_in view what found))) mine
      ∙ set_here s.views id (tried_in view what found) (at_bound s.views id view at)

  there_of : (name : ℕ) (part : Part)
      → part_of (record { parts = parts_after chip.parts one what found; cells = chip.cells }) name
      ≡ Some part → (name ≡ what.node) ⊎ (name ≡ what.node → ⊥) → At name
  there_of name part e (inl same) = (
    tried_in view what found,
    kept_after one what.side found,
    at_new name (ap owner same ∙ owns),
    ap (kept (tried_in view what found)) same ∙ nodes.tried_here view what found one has,
  )
  there_of name part e (inr apart) =
      from (is.there name part (sym (get-set_else chip.parts (index_of what.node) (index_of name) _
      (λ f. places_apart name apart (sym f))) ∙ e))
    where
      by : (old : List (Option Holding)) (entry : Holding)
          → get_elem? s.views (owner name) ≡ some old → kept old name ≡ Some entry
          → (owner name ≡ id) ⊎ (owner name ≡ id → ⊥) → At name
      by old entry there has_old (inl mine) =
          let same : old ≡ view =
          some-injective old view (sym there ∙ ap (get_elem? s.views) mine ∙ at) in (
            tried_in view what found,
            entry,
            at_new name mine,
            nodes.tried_else view what found name (places_apart name apart)
                ∙ ap (λ v. kept v name) (sym same) ∙ has_old,
          )
      by old entry there has_old (inr other) =
          (old, entry, set_else s.views id (owner name) _ other ∙ there, has_old)

      from : (old : List (Option Holding)) × (entry : Holding)
          × (get_elem? s.views (owner name) ≡ some old) × (kept old name ≡ Some entry) → At name
      from old = by old.0 old.1 old.2 old.3 (cases_eq (owner name) id)

  -- the rule after the try
  step_keeps : (cells : List (Option ℕ)) (words : List ℕ) (homes : List (home.Option ℕ))
      → words ≡ row_of cells → length cells ≡ 524 → AreSmall cells
      → IsOf (record { parts = parts_after chip.parts one what found; cells = cells })
      (tries ++ what ∷ []) owner
      (record { words = words; homes = homes; views = set s.views id (tried_in view what found) })
  step_keeps cells words homes row count small = record {
    words = row;
    cells = count;
    small = small;
    nodes = length-set chip.parts (index_of what.node) _ ∙ is.nodes;
    parts = λ index name now entry e h. parts_of index name entry cells
        (entry_of index name now entry e h);
    sides =
        λ index name now entry e h. sides_of index name entry (entry_of index name now entry e h);
    once = λ index name now entry e h. once_of index name entry (entry_of index name now entry e h);
    there = λ name part e. there_of name part e (cases_eq name what.node);
    beyond = λ name no_node. tried_else name tries what
        (λ same. no_node (subst IsNodeName same (is_node what.node below)))
        ∙ is.beyond name no_node;
  }

-- ---- what each kind of step does to the words

-- a step on a word, by which the cells become those after the try
pub record Suits (asked : Asks) (i : ℕ) (f : ℕ → ℕ) (cells : List (Option ℕ)) : Type 0 where
  pub row : set (row_of cells) i (f (get_or (row_of cells) i 0)) ≡ row_of (cells_after asked cells)
  pub count : length (cells_after asked cells) ≡ 524
  pub small : AreSmall (cells_after asked cells)

-- what the step returns when it enters the try
abbrev pub Tells : Holding → Try → (ℕ → Me ℕ (List (Option Holding)) → Type 0)
    → Me ℕ (List (Option Holding)) → ℕ → List (Option ℕ) → Type 0
Tells one what play me i cells =
    play (get_or (row_of cells) i 0)
    (tried_in me.0 what (found_by (asks one.part what.side) cells), me.1)

-- what a step must show, at one state of the table
abbrev pub Moves : Chip → ℕ → Me ℕ (List (Option Holding)) → ℕ → (ℕ → ℕ)
    → (ℕ → Me ℕ (List (Option Holding)) → Type 0) → State ℕ (List (Option Holding)) → Type 0
Moves opening id me i f play s =
    (view : List (Option Holding)) × (act : Act ℕ) × Valid s.homes me.1 act
    × Holds opening (stepped s i (f (get_or s.words i 0)) id me.1 view act)
    × play (get_or s.words i 0) (view, carried_after me.1 act)

-- so the step keeps the rule
enters : (opening : Chip) (id : ℕ) (me : Me ℕ (List (Option Holding))) (what : Try) (one : Holding)
    (i : ℕ) (f : ℕ → ℕ) (play : ℕ → Me ℕ (List (Option Holding)) → Type 0)
    (s : State ℕ (List (Option Holding))) (holds : Holds opening s) → kept me.0 what.node ≡ Some one
    → get_elem? s.views id ≡ some me.0
    → Suits (asks one.part what.side) i f (ran opening (tries_of holds.0)).cells
    → Tells one what play me i (ran opening (tries_of holds.0)).cells
    → Moves opening id me i f play s
enters opening id me what one i f play s holds has at suits tells =
    let chip = ran opening (tries_of holds.0) in
    let is = holds.2 in
    let found = found_by (asks one.part what.side) chip.cells in
    let now = step_keeps chip holds.0 holds.1 s is id me.0 one what found at has
    (cells_after (asks one.part what.side) chip.cells) (set s.words i (f (get_or s.words i 0)))
    s.homes (ap (λ l. set l i (f (get_or l i 0))) is.words ∙ suits.row) suits.count suits.small in
    let leads : ran opening (tries_of (holds.0 ++ what ∷ [])) ≡ record {
      parts = parts_after chip.parts one what found;
      cells = cells_after (asks one.part what.side) chip.cells;
    } = ran_push opening holds.0 what
    ∙ happened_at chip what one.part (is.parts id what.node me.0 one at has) in (
      tried_in me.0 what found,
      keeps,
      tt,
      (
        holds.0 ++ what ∷ [],
        holds.1,
        subst (λ c. IsOf c (holds.0 ++ what ∷ []) holds.1 (stepped s i
            (f (get_or s.words i 0)) id me.1 (tried_in me.0 what found) keeps)) (sym leads) now,
      ),
      subst (λ l. play (get_or l i 0) (tried_in me.0 what found, me.1)) (sym is.words) tells,
    )

-- a step that enters no try and changes nothing
stays : (opening : Chip) (id : ℕ) (me : Me ℕ (List (Option Holding))) (i : ℕ)
    (play : ℕ → Me ℕ (List (Option Holding)) → Type 0) (s : State ℕ (List (Option Holding)))
    → Holds opening s → get_elem? s.views id ≡ some me.0 → play (get_or s.words i 0) me
    → Moves opening id me i (λ n. n) play s
stays opening id me i play s holds at tells = (
  me.0,
  keeps,
  tt,
  subst (λ l. Holds opening (record { words = l; homes = s.homes; views = set s.views id me.0 }))
      (sym (set-get_or s.words i 0))
      (subst (λ l. Holds opening (record { words = s.words; homes = s.homes; views = l }))
      (sym (set_again s.views id me.0 at)) holds),
  tells,
)

-- ---- post

suits_post : (asked : Asks) (at : Side) (cell word : ℕ) (cells : List (Option ℕ))
    → asked ≡ Post at cell word → cell < 524 → word < 2 ^ 18 → length cells ≡ 524 → AreSmall cells
    → Suits asked (place_of cell) (λ _. word_of (Some word)) cells
suits_post asked at cell word cells e below bound count small =
    let inside : cell < length cells = omega arith in
    subst (λ a. Suits a (place_of cell) (λ _. word_of (Some word)) cells) (sym e) (record {
      row = row_write cells cell (Some word) inside;
      count = length-set cells cell (Some word) ∙ count;
      small = small_set cells cell (Some word) small
          (λ w same. subst (λ n. n < 2 ^ 18) (same_Some word w same) bound);
    })

post_at : (opening : Chip) (slots id : ℕ) (me : Me ℕ (List (Option Holding))) (what : Try)
    (cell word new : ℕ) → AsksToPost me.0 what cell word → cell < 524 → word < 2 ^ 18
    → new ≡ word_of (Some word)
    → Allows (Holds opening) slots id me (place_of cell) (λ _. new) (λ _. Enters what me)
post_at opening slots id me what cell word new asked below bound same =
    subst (λ n. Allows (Holds opening) slots id me (place_of cell) (λ _. n) (λ _. Enters what me))
    (sym same)
    (λ s holds room at fits.
    let chip = ran opening (tries_of holds.0) in
    enters opening id me what asked.0 (place_of cell) (λ _. word_of (Some word))
    (λ _. Enters what me) s holds asked.2 at
    (suits_post (asks asked.0.part what.side) asked.1 cell word chip.cells
    (told_post _ asked.1 cell word asked.3) below bound holds.2.cells holds.2.small)
    (ap (λ a. (tried_in me.0 what (found_by a chip.cells), me.1))
    (told_post _ asked.1 cell word asked.3)))

-- by the seat's nodes and the cell as a call names them
pub post_step : (opening : Chip) (slots id : ℕ) (me : Me ℕ (List (Option Holding))) (what : Try)
    (cell place word new : ℕ) (nodes : List (Option Holding)) → AsksToPost nodes what cell word
    → me.0 ≡ nodes → place ≡ place_of cell → cell < 524 → word < 2 ^ 18 → new ≡ word_of (Some word)
    → Allows (Holds opening) slots id me place (λ _. new) (λ _. Enters what me)
post_step opening slots id me what cell place word new nodes asked same there below bound new_is =
    subst (λ i. Allows (Holds opening) slots id me i (λ _. new) (λ _. Enters what me)) (sym there)
    (post_at opening slots id me what cell word new
    (subst (λ n. AsksToPost n what cell word) (sym same) asked) below bound new_is)

-- ---- take, check and poll

-- what a step returns of a cell
tells_cell : (what : Try) (me : Me ℕ (List (Option Holding))) (cell : ℕ) (cells : List (Option ℕ))
    (found : Option ℕ) → cell < 524 → length cells ≡ 524 → AreSmall cells
    → found ≡ pending_in cells cell
    → EntersFound what (get_or (row_of cells) (place_of cell) 0) me (tried_in me.0 what found, me.1)
tells_cell what me cell cells found below count small e =
    let inside : cell < length cells = omega arith in
    let read = row_read cells cell inside in (
      subst IsCellWord (sym read) (held_small (pending_in cells cell) (small cell)),
      ap (λ o. (tried_in me.0 what o, me.1)) (e ∙ sym (held_word (pending_in cells cell))
          ∙ ap pending_of (sym read)),
    )

suits_take : (asked : Asks) (at : Side) (cell : ℕ) (cells : List (Option ℕ)) → asked ≡ Take at cell
    → cell < 524 → length cells ≡ 524 → AreSmall cells → Suits asked (place_of cell) (λ _. 0) cells
suits_take asked at cell cells e below count small =
    let inside : cell < length cells = omega arith in
    subst (λ a. Suits a (place_of cell) (λ _. 0) cells) (sym e) (record {
      row = row_write cells cell None inside;
      count = length-set cells cell None ∙ count;
      small = small_set cells cell None small (λ w same. absurd (none-some w same));
    })

take_at : (opening : Chip) (slots id : ℕ) (me : Me ℕ (List (Option Holding))) (what : Try)
    (cell : ℕ) → AsksToTake me.0 what cell → cell < 524
    → Allows (Holds opening) slots id me (place_of cell) (λ _. 0) (λ held. EntersFound what held me)
take_at opening slots id me what cell asked below s holds room at fits =
    let chip = ran opening (tries_of holds.0) in
    let takes = told_take (asks asked.0.part what.side) asked.1 cell asked.3 in
    enters opening id me what asked.0 (place_of cell)
    (λ _. 0) (λ held. EntersFound what held me) s holds asked.2 at
    (suits_take (asks asked.0.part what.side) asked.1 cell chip.cells takes below holds.2.cells
    holds.2.small)
    (tells_cell what me cell chip.cells _ below holds.2.cells holds.2.small
    (ap (λ a. found_by a chip.cells) takes))

-- a step that leaves the words as they are
suits_still : (asked : Asks) (i : ℕ) (cells : List (Option ℕ)) → cells_after asked cells ≡ cells
    → length cells ≡ 524 → AreSmall cells → Suits asked i (λ n. n) cells
suits_still asked i cells e count small = record {
  row = set-get_or (row_of cells) i 0 ∙ ap row_of (sym e);
  count = ap length e ∙ count;
  small = subst AreSmall (sym e) small;
}

check_at : (opening : Chip) (slots id : ℕ) (me : Me ℕ (List (Option Holding))) (what : Try)
    (cell : ℕ) → AsksToCheck me.0 what cell → cell < 524
    → Allows (Holds opening) slots id me (place_of cell) (λ n. n) (λ held. EntersFound what held me)
check_at opening slots id me what cell asked below s holds room at fits =
    let chip = ran opening (tries_of holds.0) in
    let checks = told_check (asks asked.0.part what.side) asked.1 cell asked.3 in
    enters opening id me what asked.0 (place_of cell)
    (λ n. n) (λ held. EntersFound what held me) s holds asked.2 at
    (suits_still (asks asked.0.part what.side) (place_of cell) chip.cells
    (ap (λ a. cells_after a chip.cells) checks) holds.2.cells holds.2.small)
    (tells_cell what me cell chip.cells _ below holds.2.cells holds.2.small
    (ap (λ a. found_by a chip.cells) checks))

poll_at : (opening : Chip) (slots id : ℕ) (me : Me ℕ (List (Option Holding))) (what : Try)
    (cell : ℕ) → AsksToTake me.0 what cell → cell < 524
    → Allows (Holds opening) slots id me (place_of cell) (λ n. n) (λ held. EntersEmpty what held me)
poll_at opening slots id me what cell asked below s holds room at fits =
    by (pending_in (ran opening (tries_of holds.0)).cells cell) refl
  where
    chip : Chip
    chip = ran opening (tries_of holds.0)

    inside : cell < length (ran opening (tries_of holds.0)).cells
    inside = let count = holds.2.cells in omega arith

    read : get_or s.words (place_of cell) 0
        ≡ word_of (pending_in (ran opening (tries_of holds.0)).cells cell)
    read =
        ap (λ l. get_or l (place_of cell) 0) holds.2.words
        ∙ row_read (ran opening (tries_of holds.0)).cells cell inside

    is_cell_word : IsCellWord (word_of (pending_in (ran opening (tries_of holds.0)).cells cell))
    is_cell_word =
        held_small (pending_in (ran opening (tries_of holds.0)).cells cell) (holds.2.small cell)

    by : (o : Option ℕ) → pending_in (ran opening (tries_of holds.0)).cells cell ≡ o
        → Moves opening id me (place_of cell) (λ n. n) (λ held. EntersEmpty what held me) s
    by None e =
        let cells = (ran opening (tries_of holds.0)).cells in
        let takes = told_take (asks asked.0.part what.side) asked.1 cell asked.3 in
        let empty : get_or (row_of cells) (place_of cell) 0 ≡ 0 =
        row_read cells cell inside ∙ ap word_of e in
        enters opening id me what asked.0 (place_of cell)
        (λ n. n) (λ held. EntersEmpty what held me) s holds asked.2 at
        (suits_still (asks asked.0.part what.side) (place_of cell) cells
        (ap (λ a. cells_after a cells) takes
        ∙ empties_again cells cell e) holds.2.cells holds.2.small)
        (subst (λ held. EntersEmpty what held me
        (tried_in me.0 what (found_by (asks asked.0.part what.side) cells), me.1)) (sym empty) (
          subst (λ o. IsCellWord (word_of o)) e is_cell_word,
          ap (λ o. (tried_in me.0 what o, me.1)) (ap (λ a. found_by a cells) takes ∙ e),
        ))
    by (Some word) e =
        let full : get_or s.words (place_of cell) 0 ≡ word_of (Some word) = read ∙ ap word_of e in
        let some_word : 262144 + word ≢ 0 = λ f. omega arith in
        stays opening id me (place_of cell) (λ held. EntersEmpty what held me) s holds at
        (subst (λ held. EntersEmpty what held me me) (sym full) (
          subst (λ o. IsCellWord (word_of o)) e is_cell_word,
          ap (λ (b : Bool). (if b then tried_in me.0 what None else me.0, me.1))
              (sym (ne_eqb (262144 + word) 0 some_word)),
        ))

pub take_step : (opening : Chip) (slots id : ℕ) (me : Me ℕ (List (Option Holding))) (what : Try)
    (cell place : ℕ) (nodes : List (Option Holding)) → AsksToTake nodes what cell → me.0 ≡ nodes
    → place ≡ place_of cell → cell < 524
    → Allows (Holds opening) slots id me place (λ _. 0) (λ held. EntersFound what held me)
take_step opening slots id me what cell place nodes asked same there below =
    subst (λ i. Allows (Holds opening) slots id me i (λ _. 0) (λ held. EntersFound what held me))
    (sym there) (take_at opening slots id me what cell
    (subst (λ n. AsksToTake n what cell) (sym same) asked) below)

pub check_step : (opening : Chip) (slots id : ℕ) (me : Me ℕ (List (Option Holding))) (what : Try)
    (cell place : ℕ) (nodes : List (Option Holding)) → AsksToCheck nodes what cell → me.0 ≡ nodes
    → place ≡ place_of cell → cell < 524
    → Allows (Holds opening) slots id me place (λ n. n) (λ held. EntersFound what held me)
check_step opening slots id me what cell place nodes asked same there below =
    subst (λ i. Allows (Holds opening) slots id me i (λ n. n) (λ held. EntersFound what held me))
    (sym there) (check_at opening slots id me what cell
    (subst (λ n. AsksToCheck n what cell) (sym same) asked) below)

pub poll_step : (opening : Chip) (slots id : ℕ) (me : Me ℕ (List (Option Holding))) (what : Try)
    (cell place : ℕ) (nodes : List (Option Holding)) → AsksToTake nodes what cell → me.0 ≡ nodes
    → place ≡ place_of cell → cell < 524
    → Allows (Holds opening) slots id me place (λ n. n) (λ held. EntersEmpty what held me)
poll_step opening slots id me what cell place nodes asked same there below =
    subst (λ i. Allows (Holds opening) slots id me i (λ n. n) (λ held. EntersEmpty what held me))
    (sym there) (poll_at opening slots id me what cell
    (subst (λ n. AsksToTake n what cell) (sym same) asked) below)

-- ---- a try that touches no cell

off_cells : (asked : Asks) (cells : List (Option ℕ)) → is_off_cells (told_as asked) ≡ true
    → (cells_after asked cells ≡ cells) × (found_by asked cells ≡ None)
off_cells Own cells e = (refl, refl)
off_cells (Feed word) cells e = (refl, refl)
off_cells (Nothing outcome) cells e = (refl, refl)
off_cells (Post side cell word) cells e = absurd cc
off_cells (Take side cell) cells e = absurd cc
off_cells (Check side cell) cells e = absurd cc

own_at : (opening : Chip) (slots id : ℕ) (me : Me ℕ (List (Option Holding))) (what : Try) (i : ℕ)
    → AsksForNoCell me.0 what → Allows (Holds opening) slots id me i (λ n. n) (λ _. Enters what me)
own_at opening slots id me what i asked s holds room at fits =
    let chip = ran opening (tries_of holds.0) in
    let off = off_cells (asks asked.0.part what.side) chip.cells asked.2 in
    enters opening id me what asked.0 i (λ n. n) (λ _. Enters what me) s holds asked.1 at
    (suits_still (asks asked.0.part what.side) i chip.cells off.0 holds.2.cells holds.2.small)
    (ap (λ o. (tried_in me.0 what o, me.1)) off.1)

pub own_step : (opening : Chip) (slots id : ℕ) (me : Me ℕ (List (Option Holding))) (what : Try)
    (i : ℕ) (nodes : List (Option Holding)) → AsksForNoCell nodes what → me.0 ≡ nodes
    → Allows (Holds opening) slots id me i (λ n. n) (λ _. Enters what me)
own_step opening slots id me what i nodes asked same =
    own_at opening slots id me what i (subst (λ n. AsksForNoCell n what) (sym same) asked)
