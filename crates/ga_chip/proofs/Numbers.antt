-- The numbers of a cell: what was written is what was read and what is pending, and over a run they
-- grow by the words written and taken.
use Rattle.std.proofs.Common.{◌≡◌, ℕ, ◌+◌, ◌<◌, List, [], ◌∷◌, ◌++◌, ◌⊎◌, inl, inr, length, slice_get, Some, None, sym, ap, ap₂, ◌∙◌, get_or, ◌≤◌, add-zero, add_assoc, length-append, arith}
use Rattle.std.proofs.lemmas.Grind.{common_steps}
use Rattle.std.proofs.lemmas.Option.{same_Some, slice_get_cases}
use Rattle.std.proofs.lemmas.List.Concat.{flat_map-append}
use Rattle.ga_place.specs.Node.{IsNodeName}
use Rattle.ga_place.specs.declared.side.Side.{Side}
use Rattle.ga_place.specs.Cell.{index_of, cell_of, read_cell}
use Rattle.ga_chip.specs.Part.{Part, count_at}
use Rattle.ga_chip.specs.Chip.{Chip, part_of}
use Rattle.ga_chip.specs.Run.{Event, happened, ran, move_in, moves, posted_by, taken_by, written_words, taken_words}
use Rattle.ga_chip.specs.Legal.{IsLegal}
use Rattle.ga_chip.proofs.Events.{Does, DoesNothing, does, part_from}
use Rattle.ga_chip.proofs.Kept.{legal_kept, Wrote, wrote, Took, took}
use Rattle.ga_chip.proofs.Runs.{posts, takes, posts_once, takes_once, stand_event}

-- a legal chip has each node
pub part_there : (chip : Chip) (name : ℕ) → IsLegal chip → IsNodeName name
    → (part : Part) × (part_of chip name ≡ Some part)
part_there chip name legal named = by (slice_get_cases chip.parts (index_of name)).1
  where
    below : index_of name < 144
    below = grind (arith, common_steps)

    by : ((x : Part) × (index_of name < length chip.parts) × (slice_get chip.parts (index_of name)
        ≡ Some x) × (get_or chip.parts (index_of name) x ≡ x))
        ⊎ ((length chip.parts ≤ index_of name) × (slice_get chip.parts (index_of name) ≡ None))
        → (part : Part) × (part_of chip name ≡ Some part)
    by (inl there) = (there.0, there.2)
    by (inr past) =
        let full : length chip.parts ≡ 144 = legal.parts in
        absurd (omega (arith, past.0, full, below))

written_event : (chip : Chip) (event : Event) (name cell : ℕ) (side : Side) (p q : Part)
    → IsLegal chip → cell_of name side ≡ Some cell → part_of chip name ≡ Some p
    → part_of (happened chip event) name ≡ Some q
    → count_at side q.written ≡ count_at side p.written + length (posts cell (move_in chip event))
written_event chip event name cell side p q legal here was is = by (does chip event)
  where
    by : DoesNothing chip event ⊎ Does chip event → count_at side q.written
        ≡ count_at side p.written + length (posts cell (move_in chip event))
    by (inl nothing) =
        let same : q ≡ p = same_Some q p (sym is ∙ ap (λ c. part_of c name) nothing.0 ∙ was) in
        ap (λ x. count_at side x.written) same ∙ sym (add-zero _)
        ∙ ap (λ l. count_at side p.written + length (posts cell l)) (sym nothing.1)
    by (inr d) =
        let w : Wrote chip event d name cell side q = wrote chip event d name cell side q legal here
        (part_from chip event d name q legal.parts is) in
        w.grows ∙ ap₂ (λ x l. count_at side x.written + length l)
        (same_Some w.before p (sym w.there ∙ was)) (sym (posts_once chip event d cell))

read_event : (chip : Chip) (event : Event) (name cell : ℕ) (side : Side) (p q : Part) → IsLegal chip
    → IsNodeName name → read_cell name side ≡ Some cell → part_of chip name ≡ Some p
    → part_of (happened chip event) name ≡ Some q
    → count_at side q.read ≡ count_at side p.read + length (takes cell (move_in chip event))
read_event chip event name cell side p q legal named here was is = by (does chip event)
  where
    by : DoesNothing chip event ⊎ Does chip event
        → count_at side q.read ≡ count_at side p.read + length (takes cell (move_in chip event))
    by (inl nothing) =
        let same : q ≡ p = same_Some q p (sym is ∙ ap (λ c. part_of c name) nothing.0 ∙ was) in
        ap (λ x. count_at side x.read) same ∙ sym (add-zero _)
        ∙ ap (λ l. count_at side p.read + length (takes cell l)) (sym nothing.1)
    by (inr d) =
        let w : Took chip event d name cell side q = took chip event d name cell side q legal named
        here (part_from chip event d name q legal.parts is) in
        w.grows ∙ ap₂ (λ x l. count_at side x.read + length l)
        (same_Some w.before p (sym w.there ∙ was)) (sym (takes_once chip event d cell))

grow_both : {A : Type 0} (x y z : ℕ) (l r : List A) → y ≡ x + length l → z ≡ y + length r
    → z ≡ x + length (l ++ r)
grow_both x y z l r e f =
    f ∙ ap (λ n. n + length r) e ∙ add_assoc x (length l) (length r)
    ∙ ap (λ n. x + n) (sym (length-append l r))

-- a node's number of words written grows by the words written at its cell
pub written_grows : (chip : Chip) (events : List Event) (name cell : ℕ) (side : Side) (p q : Part)
    → IsLegal chip → cell_of name side ≡ Some cell → part_of chip name ≡ Some p
    → part_of (ran chip events) name ≡ Some q
    → count_at side q.written ≡ count_at side p.written + length (written_words chip events cell)
written_grows chip [] name cell side p q legal here was is =
    ap (λ x. count_at side x.written) (same_Some q p (sym is ∙ was)) ∙ sym (add-zero _)
written_grows chip (event ∷ events) name cell side p q legal here was is =
    let next = stand_event chip event name p legal was in
    grow_both _ _ _ (posts cell (move_in chip event))
    (posts cell (moves (happened chip event) events))
    (written_event chip event name cell side p next.now legal here was next.there)
    (written_grows (happened chip event) events name cell side next.now q
    (legal_kept chip event legal) here next.there is)
    ∙ ap (λ l. count_at side p.written + length l) (sym (flat_map-append
    (λ move. posted_by cell move.asked) (move_in chip event) (moves (happened chip event) events)))

-- and its number of words read by the words taken
pub read_grows : (chip : Chip) (events : List Event) (name cell : ℕ) (side : Side) (p q : Part)
    → IsLegal chip → IsNodeName name → read_cell name side ≡ Some cell → part_of chip name ≡ Some p
    → part_of (ran chip events) name ≡ Some q
    → count_at side q.read ≡ count_at side p.read + length (taken_words chip events cell)
read_grows chip [] name cell side p q legal named here was is =
    ap (λ x. count_at side x.read) (same_Some q p (sym is ∙ was)) ∙ sym (add-zero _)
read_grows chip (event ∷ events) name cell side p q legal named here was is =
    let next = stand_event chip event name p legal was in
    grow_both _ _ _ (takes cell (move_in chip event))
    (takes cell (moves (happened chip event) events))
    (read_event chip event name cell side p next.now legal named here was next.there)
    (read_grows (happened chip event) events name cell side next.now q
    (legal_kept chip event legal) named here next.there is)
    ∙ ap (λ l. count_at side p.read + length l) (sym (flat_map-append (λ move. taken_by cell
    move.asked move.found) (move_in chip event) (moves (happened chip event) events)))
