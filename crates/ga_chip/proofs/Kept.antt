-- An event keeps a legal chip legal, and hands on the words of each cell.
use Rattle.std.proofs.Common.{◌≡◌, ℕ, ◌+◌, ◌≤◌, ◌<◌, ◌==◌, Bool, true, false, List, [], ◌∷◌, ◌++◌, ◌⊎◌, inl, inr, length, set, get_or, Option, Some, None, refl, sym, ap, ◌∙◌, subst, append-nil, length-set, length-append, arith}
use Rattle.std.specs.Prelude.{if◌then◌else◌}
use Rattle.std.proofs.lemmas.Option.{same_Some, none-some, slice_get_within}
use Rattle.std.proofs.lemmas.Bool.{eqb-true, eqb-false}
use Rattle.std.proofs.lemmas.List.{get_or-set_same, get_or-set_other}
use Rattle.std.specs.Option.{option_to_list}
use Rattle.ga_place.specs.Node.{IsNodeName}
use Rattle.ga_place.specs.Side.{neighbour_of}
use Rattle.ga_place.specs.declared.side.Side.{Side}
use Rattle.ga_place.proofs.SideLemmas.{neighbour_of-IsNodeName}
use Rattle.ga_node.specs.State.{State}
use Rattle.ga_node.specs.Need.{need_of}
use Rattle.ga_node.specs.Slot.{step}
use Rattle.ga_node.specs.declared.need.Need.{Need}
use Rattle.ga_node.specs.declared.need.Need.TheVariants as need
use Rattle.ga_place.specs.Cell.{index_of, cell_of, read_cell}
use Rattle.ga_chip.specs.Part.{Part, count_at, Asks, Nothing, Own, Feed, Post, Check, Take}
use Rattle.ga_chip.specs.Chip.{Chip, part_of, pending, found_by, cells_after}
use Rattle.ga_chip.specs.Run.{Event, happened, ran, posted_by, taken_by}
use Rattle.ga_chip.specs.Legal.{IsLegal, StandsAtCheck}
use Rattle.ga_place.proofs.Cells.{is_node, cell_below, one_writer, one_reader, writer_there, reader_there}
use Rattle.ga_node.proofs.Rows.{need_fits, FitsPost, step_posted, post_after, is_running}
use Rattle.ga_chip.proofs.Parts.{Fits, stand_after}
use Rattle.ga_chip.proofs.Events.{Does, DoesNothing, does, Here, Else, part_from}

-- a node that posts a word finds the cell empty
pub empty_at_post : (chip : Chip) (name at word : ℕ) (side : Side) (part : Part) → IsLegal chip
    → part_of chip name ≡ Some part → cell_of name side ≡ Some at
    → need_of part.state ≡ need.Post side word → pending chip at ≡ None
empty_at_post chip name at word side part legal there here needs = go (pending chip at) refl
  where
    posted : part.state.posted ≡ None
    posted = subst (λ n. FitsPost n part.state.posted) needs (need_fits part.state)

    go : (o : Option ℕ) → pending chip at ≡ o → pending chip at ≡ None
    go None e = e
    go (Some w) e =
        let stands = legal.checked name at w side part here there e in
        absurd (none-some _ (sym posted ∙ stands.1))

taken_here : (side : Side) (at cell : ℕ) (o : Option ℕ) → (at == cell) ≡ true
    → taken_by cell (Take side at) o ≡ option_to_list o
taken_here side at cell None e = refl
taken_here side at cell (Some word) e = rw e refl

taken_else : (side : Side) (at cell : ℕ) (o : Option ℕ) → (at == cell) ≡ false
    → taken_by cell (Take side at) o ≡ []
taken_else side at cell None e = refl
taken_else side at cell (Some word) e = rw e refl

-- What was pending in a cell and is posted there is what is taken from it and is pending
-- afterwards.
flow_asked : (q : Asks) (chip : Chip) (cell : ℕ) → length chip.cells ≡ 524
    → ((side : Side) (at word : ℕ) → q ≡ Post side at word → (at < 524) × (pending chip at ≡ None))
    → ((side : Side) (at : ℕ) → q ≡ Take side at → at < 524)
    → option_to_list (pending chip cell) ++ posted_by cell q ≡ taken_by cell q
    (found_by q chip.cells) ++ option_to_list (get_or (cells_after q chip.cells) cell None)
flow_asked (Nothing outcome) chip cell full empty below = append-nil _
flow_asked Own chip cell full empty below = append-nil _
flow_asked (Feed fed) chip cell full empty below = append-nil _
flow_asked (Check side at) chip cell full empty below = append-nil _
flow_asked (Post side at word) chip cell full empty below = go (at == cell) refl
  where
    room : at < length chip.cells
    room = subst (λ n. at < n) (sym full) (empty side at word refl).0

    go : (b : Bool) → (at == cell) ≡ b → option_to_list (pending chip cell) ++ (if b then word ∷ []
        else []) ≡ option_to_list (get_or (set chip.cells at (Some word)) cell None)
    go true e =
        let same : at ≡ cell = eqb-true at cell e in
        subst (λ c. option_to_list (pending chip c) ++ word ∷ []
        ≡ option_to_list (get_or (set chip.cells at (Some word)) c None)) same
        (ap (λ o. option_to_list o ++ word ∷ []) (empty side at word refl).1
        ∙ ap option_to_list (sym (get_or-set_same chip.cells at (Some word) None room)))
    go false e =
        append-nil _ ∙ ap option_to_list (sym
        (get_or-set_other chip.cells at cell (Some word) None (λ f. eqb-false at cell e (sym f))))
flow_asked (Take side at) chip cell full empty below = go (at == cell) refl
  where
    room : at < length chip.cells
    room = subst (λ n. at < n) (sym full) (below side at refl)

    go : (b : Bool) → (at == cell) ≡ b
        → option_to_list (pending chip cell) ++ [] ≡ taken_by cell (Take side at) (pending chip at)
        ++ option_to_list (get_or (set chip.cells at None) cell None)
    go true e =
        let same : at ≡ cell = eqb-true at cell e in
        append-nil _ ∙ ap (λ c. option_to_list (pending chip c)) (sym same)
        ∙ sym (taken_here side at cell (pending chip at) e) ∙ sym (append-nil _)
        ∙ ap (λ l. taken_by cell (Take side at) (pending chip at) ++ option_to_list l)
        (sym (get_or-set_same chip.cells at None None room)
        ∙ ap (λ c. get_or (set chip.cells at None) c None) same)
    go false e =
        append-nil _ ∙ ap option_to_list
        (sym (get_or-set_other chip.cells at cell None None (λ f. eqb-false at cell e (sym f))))
        ∙ ap (λ l. l ++ option_to_list (get_or (set chip.cells at None) cell None))
        (sym (taken_else side at cell (pending chip at) e))

-- the event's words at a cell
pub flow : (chip : Chip) (event : Event) (d : Does chip event) (cell : ℕ) → IsLegal chip
    → option_to_list (pending chip cell) ++ posted_by cell d.asked ≡ taken_by cell d.asked d.found
    ++ option_to_list (pending (happened chip event) cell)
flow chip event d cell legal =
    flow_asked d.asked chip cell legal.cells
    (λ side at word e.
    let fits : Fits (Post side at word) (need_of d.part.state) d.part.state.node =
    subst (λ q. Fits q (need_of d.part.state) d.part.state.node) e d.fits in
    let here : cell_of d.name side ≡ Some at =
    subst (λ n. cell_of n side ≡ Some at) (legal.named d.name d.part d.there) fits.0 in (
      cell_below d.name at side here,
      empty_at_post chip d.name at word side d.part legal d.there here fits.1,
    ))
    (λ side at e.
    let fits : Fits (Take side at) (need_of d.part.state) d.part.state.node =
    subst (λ q. Fits q (need_of d.part.state) d.part.state.node) e d.fits in
    let there = writer_there d.part.state.node at side fits.1 in
    cell_below there.0 at side there.2)
    ∙ ap (λ o. taken_by cell d.asked o
    ++ option_to_list (get_or (cells_after d.asked chip.cells) cell None)) (sym d.looks)
    ∙ ap (λ c. taken_by cell d.asked d.found ++ option_to_list (pending c cell)) (sym d.leads)

-- A node that isn't an event's posts nothing at its cells, and takes nothing from the cells that it
-- reads.
posts_else : (q : Asks) (n : Need) (a name cell : ℕ) (side : Side) → Fits q n a
    → cell_of name side ≡ Some cell → (a ≡ name → ⊥) → posted_by cell q ≡ []
posts_else (Nothing outcome) n a name cell side fits here apart = refl
posts_else Own n a name cell side fits here apart = refl
posts_else (Feed fed) n a name cell side fits here apart = refl
posts_else (Check to at) n a name cell side fits here apart = refl
posts_else (Take to at) n a name cell side fits here apart = refl
posts_else (Post to at word) n a name cell side fits here apart = go (at == cell) refl
  where
    go : (b : Bool) → (at == cell) ≡ b → (if b then word ∷ [] else []) ≡ []
    go true e =
        absurd
        (apart (one_writer a name cell to side (fits.0 ∙ ap Some (eqb-true at cell e)) here).0)
    go false e = refl

takes_else : (q : Asks) (n : Need) (found : Option ℕ) (a name cell : ℕ) (side : Side) → Fits q n a
    → IsNodeName a → IsNodeName name → read_cell name side ≡ Some cell → (a ≡ name → ⊥)
    → taken_by cell q found ≡ []
takes_else (Nothing outcome) n found a name cell side fits na nb here apart = refl
takes_else Own n found a name cell side fits na nb here apart = refl
takes_else (Feed fed) n found a name cell side fits na nb here apart = refl
takes_else (Check to at) n found a name cell side fits na nb here apart = refl
takes_else (Post to at word) n found a name cell side fits na nb here apart = refl
takes_else (Take to at) n None a name cell side fits na nb here apart = refl
takes_else (Take to at) n (Some word) a name cell side fits na nb here apart = go (at == cell) refl
  where
    go : (b : Bool) → (at == cell) ≡ b → (if b then word ∷ [] else []) ≡ []
    go true e =
        absurd (apart
        (one_reader a name cell to side na nb (fits.1 ∙ ap Some (eqb-true at cell e)) here).0)
    go false e = refl

-- a node of the chip
pub has_name : (chip : Chip) (name : ℕ) (part : Part) → IsLegal chip → part_of chip name ≡ Some part
    → IsNodeName name
has_name chip name part legal there =
    is_node name (subst (λ n. index_of name < n) legal.parts
    (slice_get_within chip.parts (index_of name) part there))

pub fits_name : (chip : Chip) (event : Event) (d : Does chip event) → IsLegal chip
    → Fits d.asked (need_of d.part.state) d.name
fits_name chip event d legal =
    subst (λ n. Fits d.asked (need_of d.part.state) n) (legal.named d.name d.part d.there) d.fits

pub posted_else : (chip : Chip) (event : Event) (d : Does chip event) (name cell : ℕ) (side : Side)
    → IsLegal chip → cell_of name side ≡ Some cell → (d.name ≡ name → ⊥)
    → posted_by cell d.asked ≡ []
posted_else chip event d name cell side legal here apart =
    posts_else d.asked (need_of d.part.state) d.name name cell side
    (fits_name chip event d legal) here apart

pub taken_elsewhere : (chip : Chip) (event : Event) (d : Does chip event) (name cell : ℕ)
    (side : Side) → IsLegal chip → IsNodeName name → read_cell name side ≡ Some cell
    → (d.name ≡ name → ⊥) → taken_by cell d.asked d.found ≡ []
taken_elsewhere chip event d name cell side legal named here apart =
    takes_else d.asked (need_of d.part.state) d.found d.name name cell side
    (fits_name chip event d legal) (has_name chip d.name d.part legal d.there) named here apart

-- the numbers of a cell after an event, by the writer's and the reader's part after it
pub record Wrote (chip : Chip) (event : Event) (d : Does chip event) (name cell : ℕ) (side : Side)
    (after : Part) : Type 0 where
  pub before : Part
  pub there : part_of chip name ≡ Some before
  pub grows : count_at side after.written ≡ count_at side before.written
      + length (posted_by cell d.asked)

pub wrote : (chip : Chip) (event : Event) (d : Does chip event) (name cell : ℕ) (side : Side)
    (after : Part) → IsLegal chip → cell_of name side ≡ Some cell → Here chip event d name after
    ⊎ Else chip event d name after → Wrote chip event d name cell side after
wrote chip event d name cell side after legal here (inl h) = record {
  before = d.part;
  there = ap (part_of chip) h.name_is ∙ d.there;
  grows = ap (λ p. count_at side p.written) h.part_is ∙ d.wrote side cell
      (ap (λ n. cell_of n side) (legal.named d.name d.part d.there ∙ sym h.name_is) ∙ here);
}
wrote chip event d name cell side after legal here (inr h) = record {
  before = after;
  there = h.there;
  grows =
      omega (arith, ap {B = ℕ} length (posted_else chip event d name cell side legal here h.apart));
}

pub record Took (chip : Chip) (event : Event) (d : Does chip event) (name cell : ℕ) (side : Side)
    (after : Part) : Type 0 where
  pub before : Part
  pub there : part_of chip name ≡ Some before
  pub grows : count_at side after.read ≡ count_at side before.read
      + length (taken_by cell d.asked d.found)

pub took : (chip : Chip) (event : Event) (d : Does chip event) (name cell : ℕ) (side : Side)
    (after : Part) → IsLegal chip → IsNodeName name → read_cell name side ≡ Some cell
    → Here chip event d name after ⊎ Else chip event d name after
    → Took chip event d name cell side after
took chip event d name cell side after legal named here (inl h) = record {
  before = d.part;
  there = ap (part_of chip) h.name_is ∙ d.there;
  grows = ap (λ p. count_at side p.read) h.part_is ∙ d.took side cell
      (subst IsNodeName (h.name_is ∙ sym (legal.named d.name d.part d.there)) named)
      (ap (λ n. read_cell n side) (legal.named d.name d.part d.there ∙ sym h.name_is) ∙ here);
}
took chip event d name cell side after legal named here (inr h) = record {
  before = after;
  there = h.there;
  grows = omega (
    arith,
    ap {B = ℕ} length (taken_elsewhere chip event d name cell side legal named here h.apart),
  );
}

-- A node at a check that doesn't pass is at the same check after its step.
post_kept : (state : State) (taken : Option ℕ) (n : Need) → need_of state ≡ n → is_running n ≡ true
    → post_after n state.posted ≡ state.posted → (step state taken).posted ≡ state.posted
post_kept state taken n e running same =
    step_posted state taken (ap is_running e ∙ running) ∙ ap (λ m. post_after m state.posted) e
    ∙ same

still_posted : (q : Asks) (found : Option ℕ) (name : ℕ) (at : State) (post : Side × ℕ)
    → Fits q (need_of at) name → at.posted ≡ Some post
    → ((side : Side) (cell : ℕ) → q ≡ Check side cell → found ≡ None → ⊥)
    → (stand_after q found at).posted ≡ Some post
still_posted (Nothing outcome) found name at post fits e not_yet = e
still_posted Own found name at post fits e not_yet = post_kept at None need.Own fits refl refl ∙ e
still_posted (Feed fed) found name at post fits e not_yet =
    post_kept at (Some fed) need.Input fits refl refl ∙ e
still_posted (Post side cell word) found name at post fits e not_yet =
    let none : at.posted ≡ None = subst (λ n. FitsPost n at.posted) fits.1 (need_fits at) in
    absurd (none-some post (sym none ∙ e))
still_posted (Check side cell) None name at post fits e not_yet =
    absurd (not_yet side cell refl refl)
still_posted (Check side cell) (Some word) name at post fits e not_yet = e
still_posted (Take side cell) None name at post fits e not_yet = e
still_posted (Take side cell) (Some word) name at post fits e not_yet =
    post_kept at (Some word) (need.Take fits.0) fits.2 refl refl ∙ e

-- if a word is pending after an event, it was pending before, or the event posts it
pending_from : (q : Asks) (chip : Chip) (cell word : ℕ)
    → get_or (cells_after q chip.cells) cell None ≡ Some word → (cell < length chip.cells)
    → (pending chip cell ≡ Some word) ⊎ ((side : Side) × (q ≡ Post side cell word))
pending_from (Nothing outcome) chip cell word e room = inl e
pending_from Own chip cell word e room = inl e
pending_from (Feed fed) chip cell word e room = inl e
pending_from (Check side at) chip cell word e room = inl e
pending_from (Post side at other) chip cell word e room = go (at == cell) refl
  where
    go : (b : Bool) → (at == cell) ≡ b
        → (pending chip cell ≡ Some word) ⊎ ((to : Side) × (Post side at other ≡ Post to cell word))
    go true f =
        let same : at ≡ cell = eqb-true at cell f in
        let is : other ≡ word =
        same_Some other word (sym (get_or-set_same chip.cells cell (Some other) None room)
        ∙ ap (λ c. get_or (set chip.cells c (Some other)) cell None) (sym same) ∙ e) in
        inr (side, cc)
    go false f =
        inl (sym (get_or-set_other chip.cells at cell (Some other) None
        (λ g. eqb-false at cell f (sym g))) ∙ e)
pending_from (Take side at) chip cell word e room = go (at == cell) refl
  where
    go : (b : Bool) → (at == cell) ≡ b
        → (pending chip cell ≡ Some word) ⊎ ((to : Side) × (Take side at ≡ Post to cell word))
    go true f =
        let same : at ≡ cell = eqb-true at cell f in
        absurd (none-some word (sym (get_or-set_same chip.cells cell None None room)
        ∙ ap (λ c. get_or (set chip.cells c None) cell None) (sym same) ∙ e))
    go false f =
        inl (sym (get_or-set_other chip.cells at cell None None (λ g. eqb-false at cell f (sym g)))
        ∙ e)

pub cells_kept : (q : Asks) (cells : List (Option ℕ)) → length (cells_after q cells) ≡ length cells
cells_kept (Nothing outcome) cells = refl
cells_kept Own cells = refl
cells_kept (Feed fed) cells = refl
cells_kept (Check side at) cells = refl
cells_kept (Post side at word) cells = length-set cells at (Some word)
cells_kept (Take side at) cells = length-set cells at None

named_after : (chip : Chip) (event : Event) (d : Does chip event) (name : ℕ) (part : Part)
    → IsLegal chip → Here chip event d name part ⊎ Else chip event d name part
    → part.state.node ≡ name
named_after chip event d name part legal (inl h) =
    ap (λ p. p.state.node) h.part_is ∙ d.named ∙ legal.named d.name d.part d.there ∙ sym h.name_is
named_after chip event d name part legal (inr h) = legal.named name part h.there

steps_kept : (chip : Chip) (event : Event) (d : Does chip event) (name : ℕ) (side : Side)
    (part : Part) → IsLegal chip → Here chip event d name part ⊎ Else chip event d name part
    → count_at side part.written ≤ part.state.steps
steps_kept chip event d name side part legal (inl h) =
    subst (λ p. count_at side p.written ≤ p.state.steps) (sym h.part_is)
    (d.steps side (legal.within_steps d.name side d.part d.there))
steps_kept chip event d name side part legal (inr h) = legal.within_steps name side part h.there

balance : (w w' r r' : ℕ) (p p' posted taken : List ℕ) → w' ≡ w + length posted
    → r' ≡ r + length taken → w ≡ r + length p → p ++ posted ≡ taken ++ p' → w' ≡ r' + length p'
balance w w' r r' p p' posted taken e f b flow =
    omega (arith, sym (length-append p posted) ∙ ap {B = ℕ} length flow ∙ length-append taken p')

balance_kept : (chip : Chip) (event : Event) (d : Does chip event) (name other cell : ℕ)
    (side : Side) (writer reader : Part) → IsLegal chip → cell_of name side ≡ Some cell
    → neighbour_of name side ≡ Some other → part_of (happened chip event) name ≡ Some writer
    → part_of (happened chip event) other ≡ Some reader → count_at side writer.written
    ≡ count_at side reader.read + length (option_to_list (pending (happened chip event) cell))
balance_kept chip event d name other cell side writer reader legal here next there here' =
    let w : Wrote chip event d name cell side writer = wrote chip event d name cell side writer
    legal here (part_from chip event d name writer legal.parts there) in
    let named : IsNodeName name = has_name chip name w.before legal w.there in
    let read_here : read_cell other side ≡ Some cell =
    reader_there name other cell side named here next in
    let named' : IsNodeName other = neighbour_of-IsNodeName name other side named next in
    let r : Took chip event d other cell side reader = took chip event d other cell side reader
    legal named' read_here (part_from chip event d other reader legal.parts here') in
    balance (count_at side w.before.written) (count_at side writer.written)
    (count_at side r.before.read) (count_at side reader.read) (option_to_list (pending chip cell))
    (option_to_list (pending (happened chip event) cell)) (posted_by cell d.asked)
    (taken_by cell d.asked d.found)
    w.grows r.grows (legal.balanced name other cell side w.before r.before here next w.there
    r.there) (flow chip event d cell legal)

-- a posted word's writer is at its check
checked_kept : (chip : Chip) (event : Event) (d : Does chip event) (name cell word : ℕ)
    (side : Side) (writer : Part) → IsLegal chip → cell_of name side ≡ Some cell
    → pending (happened chip event) cell ≡ Some word → Here chip event d name writer
    ⊎ Else chip event d name writer → StandsAtCheck writer.state side
checked_kept chip event d name cell word side writer legal here is from =
    by_pending from (pending_from d.asked chip cell word (ap (λ c. pending c cell) (sym d.leads)
    ∙ is) (subst (λ n. cell < n) (sym legal.cells) (cell_below name cell side here)))
  where
    fits : Fits d.asked (need_of d.part.state) d.name
    fits = fits_name chip event d legal

    stands : (state : State) → state ≡ writer.state → StandsAtCheck state side
        → StandsAtCheck writer.state side
    stands state e h = subst (λ s. StandsAtCheck s side) e h

    old : pending chip cell ≡ Some word → Here chip event d name writer
        → StandsAtCheck writer.state side
    old was h =
        let before : StandsAtCheck d.part.state side =
        legal.checked name cell word side d.part here (ap (part_of chip) h.name_is ∙ d.there) was in
        let not_yet : (to : Side) (at : ℕ) → d.asked ≡ Check to at → d.found ≡ None → ⊥ =
        λ to at e f.
        let fit : Fits (Check to at) (need_of d.part.state) d.name =
        subst (λ q. Fits q (need_of d.part.state) d.name) e fits in
        let post : FitsPost (need.Check to) d.part.state.posted =
        subst (λ n. FitsPost n d.part.state.posted) fit.1 (need_fits d.part.state) in
        let same_post : ◌≡◌ {A = Option (Side × ℕ)} (Some (side, before.0)) (Some (to, post.0)) =
        sym before.1 ∙ post.1 in
        let same : side ≡ to = ap (λ p. p.0) (same_Some _ _ same_post) in
        let cells : at ≡ cell = same_Some at cell (sym fit.0 ∙ ap (cell_of d.name) (sym same)
        ∙ ap (λ n. cell_of n side) (sym h.name_is) ∙ here) in
        none-some word
        (sym f ∙ d.looks ∙ ap (λ q. found_by q chip.cells) e ∙ ap (pending chip) cells ∙ was) in (
          before.0,
          ap (λ p. p.state.posted) h.part_is ∙ ap (λ s. s.posted) d.stands ∙ still_posted d.asked
              d.found d.name d.part.state (side, before.0) fits before.1 not_yet,
        )

    new : (to : Side) → d.asked ≡ Post to cell word → Here chip event d name writer
        → StandsAtCheck writer.state side
    new to e h =
        let fit : Fits (Post to cell word) (need_of d.part.state) d.name =
        subst (λ q. Fits q (need_of d.part.state) d.name) e fits in
        let same : to ≡ side = (one_writer d.name name cell to side fit.0 here).1 in
        let posted : (step d.part.state None).posted ≡ Some (to, word) =
        post_is d.part.state to word fit.1 in (
          word,
          ap (λ p. p.state.posted) h.part_is ∙ ap (λ s. s.posted) d.stands
              ∙ ap (λ q. (stand_after q d.found d.part.state).posted) e ∙ posted
              ∙ ap (λ s. Some (s, word)) same,
        )
      where
        post_is : (state : State) (to : Side) (word : ℕ) → need_of state ≡ need.Post to word
            → (step state None).posted ≡ Some (to, word)
        post_is state to word e =
            step_posted state None (ap is_running e) ∙ ap (λ m. post_after m state.posted) e

    by_pending : Here chip event d name writer ⊎ Else chip event d name writer
        → (pending chip cell ≡ Some word) ⊎ ((to : Side) × (d.asked ≡ Post to cell word))
        → StandsAtCheck writer.state side
    by_pending (inl h) (inl was) = old was h
    by_pending (inl h) (inr (to, e)) = new to e h
    by_pending (inr h) (inl was) = legal.checked name cell word side writer here h.there was
    by_pending (inr h) (inr (to, e)) =
        let fit : Fits (Post to cell word) (need_of d.part.state) d.name =
        subst (λ q. Fits q (need_of d.part.state) d.name) e fits in
        absurd (h.apart (one_writer d.name name cell to side fit.0 here).0)

legal_does : (chip : Chip) (event : Event) → IsLegal chip → Does chip event
    → IsLegal (happened chip event)
legal_does chip event legal d = record {
  parts = ap (λ c. length c.parts) d.leads ∙ length-set chip.parts (index_of d.name) d.next
      ∙ legal.parts;
  cells = ap (λ c. length c.cells) d.leads ∙ cells_kept d.asked chip.cells ∙ legal.cells;
  named = λ name part e. named_after chip event d name part legal
      (part_from chip event d name part legal.parts e);
  balanced = λ name other cell side writer reader here next there here'. balance_kept chip event d
      name other cell side writer reader legal here next there here';
  checked = λ name cell word side writer here there is. checked_kept chip event d name cell word
      side writer legal here is (part_from chip event d name writer legal.parts there);
  within_steps = λ name side writer there. steps_kept chip event d name side writer legal
      (part_from chip event d name writer legal.parts there);
}

-- each event keeps a legal chip legal
pub legal_kept : (chip : Chip) (event : Event) → IsLegal chip → IsLegal (happened chip event)
legal_kept chip event legal = by (does chip event)
  where
    by : DoesNothing chip event ⊎ Does chip event → IsLegal (happened chip event)
    by (inl none) = subst IsLegal (sym none.0) legal
    by (inr d) = legal_does chip event legal d

pub legal_ran : (chip : Chip) (events : List Event) → IsLegal chip → IsLegal (ran chip events)
legal_ran chip [] legal = legal
legal_ran chip (event ∷ events) legal =
    legal_ran (happened chip event) events (legal_kept chip event legal)
