-- The words that two neighbours hand over, by what each did.
use Rattle.std.proofs.Common.{◌≡◌, ℕ, ◌==◌, Bool, true, false, List, [], ◌∷◌, ◌++◌, ◌⊎◌, inl, inr, map, Option, Some, None, refl, sym, ap, ap₂, ◌∙◌, subst}
use Rattle.std.specs.Prelude.{if◌then◌else◌}
use Rattle.std.specs.Option.{option_to_list}
use Rattle.std.proofs.lemmas.Bool.{eqb-true, eq-eqb}
use Rattle.std.proofs.lemmas.Option.{same_Some}
use Rattle.std.proofs.lemmas.List.{map-append}
use Rattle.std.proofs.lemmas.List.Concat.{flat_map-append}
use Rattle.ga_place.specs.Node.{IsNodeName}
use Rattle.ga_place.specs.Side.{side_bit}
use Rattle.ga_place.specs.declared.side.Side.{Side}
use Rattle.ga_node.specs.Need.{need_of}
use Rattle.ga_node.specs.declared.need.Need.{Need}
use Rattle.ga_place.specs.Cell.{cell_of, read_cell}
use Rattle.ga_chip.specs.Part.{Part, Asks}
use Rattle.ga_chip.specs.Part as chip
use Rattle.ga_chip.specs.Chip.{Chip, pending}
use Rattle.ga_chip.specs.Run.{Event, Move, happened, ran, move_in, moves, moves_of, posted_by, taken_by, written_words}
use Rattle.ga_chip.specs.Legal.{IsLegal}
use Rattle.ga_place.proofs.Cells.{one_writer, one_reader, same_bit}
use Rattle.ga_chip.proofs.Parts.{Fits}
use Rattle.ga_chip.proofs.Kept.{legal_kept}
use Rattle.ga_chip.proofs.Runs.{moves_of-append, posts, takes, posts_ran, takes_ran, flow_ran}
use Rattle.ga_chip.proofs.Moments.{Makes, makes_event, one_at_most}
use Rattle.ga_boot.specs.inner.Local.{taken_at, posted_at, taken, posted, local_by, local_of, history}

same_test : (b c : Bool) → (b ≡ true → c ≡ true) → (c ≡ true → b ≡ true) → b ≡ c
same_test true c f g = sym (f refl)
same_test false true f g = g refl
same_test false false f g = refl

writes_there : (name at cell : ℕ) (to side : Side) → cell_of name to ≡ Some at
    → cell_of name side ≡ Some cell → (at == cell) ≡ (side_bit to == side_bit side)
writes_there name at cell to side here there = same_test (at == cell) (side_bit to == side_bit side)
    (λ e. eq-eqb (side_bit to) (side_bit side)
    (ap side_bit (one_writer name name cell to side (here ∙ ap Some (eqb-true at cell e)) there).1))
    (λ e. eq-eqb at cell
    (same_Some at cell (sym here ∙ ap (cell_of name) (same_bit to side (eqb-true _ _ e)) ∙ there)))

reads_there : (name at cell : ℕ) (from side : Side) → IsNodeName name
    → read_cell name from ≡ Some at → read_cell name side ≡ Some cell
    → (at == cell) ≡ (side_bit from == side_bit side)
reads_there name at cell from side named here there =
    same_test (at == cell) (side_bit from == side_bit side)
    (λ e. eq-eqb (side_bit from) (side_bit side) (ap side_bit (one_reader name name cell from side
    named named (here ∙ ap Some (eqb-true at cell e)) there).1))
    (λ e. eq-eqb at cell (same_Some at cell
    (sym here ∙ ap (read_cell name) (same_bit from side (eqb-true _ _ e)) ∙ there)))

posts_by : (q : Asks) (found : Option ℕ) (n : Need) (name cell : ℕ) (side : Side) → Fits q n name
    → cell_of name side ≡ Some cell → posted_by cell q ≡ posted_at side (local_by q found)
posts_by (chip.Nothing o) found n name cell side fits there = refl
posts_by chip.Own found n name cell side fits there = refl
posts_by (chip.Feed word) found n name cell side fits there = refl
posts_by (chip.Post to at word) found n name cell side fits there =
    ap (λ b. if b then word ∷ [] else []) (writes_there name at cell to side fits.0 there)
posts_by (chip.Check to at) found n name cell side fits there = refl
posts_by (chip.Take from at) None n name cell side fits there = refl
posts_by (chip.Take from at) (Some word) n name cell side fits there = refl

takes_by : (q : Asks) (found : Option ℕ) (n : Need) (name cell : ℕ) (side : Side) → IsNodeName name
    → Fits q n name → read_cell name side ≡ Some cell
    → taken_by cell q found ≡ taken_at side (local_by q found)
takes_by (chip.Nothing o) found n name cell side named fits there = refl
takes_by chip.Own found n name cell side named fits there = refl
takes_by (chip.Feed word) found n name cell side named fits there = refl
takes_by (chip.Post to at word) found n name cell side named fits there = refl
takes_by (chip.Check to at) found n name cell side named fits there = refl
takes_by (chip.Take from at) None n name cell side named fits there = refl
takes_by (chip.Take from at) (Some word) n name cell side named fits there =
    ap (λ b. if b then word ∷ [] else []) (reads_there name at cell from side named fits.1 there)

-- a node's moves in an event
event_posts : (chip : Chip) (event : Event) (name cell : ℕ) (side : Side) → IsLegal chip
    → cell_of name side ≡ Some cell → posts cell (moves_of name (move_in chip event))
    ≡ posted side (map local_of (moves_of name (move_in chip event)))
event_posts chip event name cell side legal there = by (one_at_most chip event name)
  where
    one : (m : Move) → Makes chip name m → posts cell (m ∷ []) ≡ posted side (local_of m ∷ [])
    one m a =
        ap (λ l. l ++ []) (posts_by m.asked m.found (need_of a.part.state) name cell side (subst
        (Fits m.asked (need_of a.part.state)) (legal.named name a.part a.there) a.fits) there)

    by : (moves_of name (move_in chip event) ≡ [])
        ⊎ ((m : Move) × (moves_of name (move_in chip event) ≡ m ∷ []))
        → posts cell (moves_of name (move_in chip event))
        ≡ posted side (map local_of (moves_of name (move_in chip event)))
    by (inl e) = subst (λ l. posts cell l ≡ posted side (map local_of l)) (sym e) refl
    by (inr (m, e)) =
        subst (λ l. posts cell l ≡ posted side (map local_of l)) (sym e)
        (one m (makes_event chip event name m e))

event_takes : (chip : Chip) (event : Event) (name cell : ℕ) (side : Side) → IsLegal chip
    → IsNodeName name → read_cell name side ≡ Some cell
    → takes cell (moves_of name (move_in chip event))
    ≡ taken side (map local_of (moves_of name (move_in chip event)))
event_takes chip event name cell side legal named there = by (one_at_most chip event name)
  where
    one : (m : Move) → Makes chip name m → takes cell (m ∷ []) ≡ taken side (local_of m ∷ [])
    one m a =
        ap (λ l. l ++ []) (takes_by m.asked m.found (need_of a.part.state) name cell side named
        (subst (Fits m.asked (need_of a.part.state)) (legal.named name a.part a.there) a.fits)
        there)

    by : (moves_of name (move_in chip event) ≡ [])
        ⊎ ((m : Move) × (moves_of name (move_in chip event) ≡ m ∷ []))
        → takes cell (moves_of name (move_in chip event))
        ≡ taken side (map local_of (moves_of name (move_in chip event)))
    by (inl e) = subst (λ l. takes cell l ≡ taken side (map local_of l)) (sym e) refl
    by (inr (m, e)) =
        subst (λ l. takes cell l ≡ taken side (map local_of l)) (sym e)
        (one m (makes_event chip event name m e))

pub history_more : (chip : Chip) (event : Event) (events : List Event) (name : ℕ)
    → history chip (event ∷ events) name ≡ map local_of (moves_of name (move_in chip event))
    ++ history (happened chip event) events name
history_more chip event events name =
    ap (map local_of)
    (moves_of-append name (move_in chip event) (moves (happened chip event) events))
    ∙ map-append local_of (moves_of name (move_in chip event))
    (moves_of name (moves (happened chip event) events))

posts_history : (chip : Chip) (events : List Event) (name cell : ℕ) (side : Side) → IsLegal chip
    → cell_of name side ≡ Some cell
    → posts cell (moves_of name (moves chip events)) ≡ posted side (history chip events name)
posts_history chip [] name cell side legal there = refl
posts_history chip (event ∷ events) name cell side legal there =
    ap (posts cell) (moves_of-append name (move_in chip event) (moves (happened chip event) events))
    ∙ flat_map-append (λ move. posted_by cell move.asked) (moves_of name (move_in chip event))
    (moves_of name (moves (happened chip event) events))
    ∙ ap₂ (λ a b. a ++ b) (event_posts chip event name cell side legal there)
    (posts_history (happened chip event) events name cell side (legal_kept chip event legal) there)
    ∙ sym (flat_map-append (posted_at side) (map local_of (moves_of name (move_in chip event)))
    (history (happened chip event) events name))
    ∙ ap (posted side) (sym (history_more chip event events name))

pub takes_history : (chip : Chip) (events : List Event) (name cell : ℕ) (side : Side) → IsLegal chip
    → IsNodeName name → read_cell name side ≡ Some cell
    → takes cell (moves_of name (moves chip events)) ≡ taken side (history chip events name)
takes_history chip [] name cell side legal named there = refl
takes_history chip (event ∷ events) name cell side legal named there =
    ap (takes cell) (moves_of-append name (move_in chip event) (moves (happened chip event) events))
    ∙ flat_map-append (λ move. taken_by cell move.asked move.found)
    (moves_of name (move_in chip event)) (moves_of name (moves (happened chip event) events))
    ∙ ap₂ (λ a b. a ++ b) (event_takes chip event name cell side legal named there) (takes_history
    (happened chip event) events name cell side (legal_kept chip event legal) named there)
    ∙ sym (flat_map-append (taken_at side) (map local_of (moves_of name (move_in chip event)))
    (history (happened chip event) events name))
    ∙ ap (taken side) (sym (history_more chip event events name))

-- WHAT A NODE POSTS ITS NEIGHBOUR TAKES, apart from the word that is pending
pub hands_over : (chip : Chip) (events : List Event) (name other cell : ℕ) (side : Side)
    → IsLegal chip → pending chip cell ≡ None → IsNodeName name → IsNodeName other
    → cell_of name side ≡ Some cell → read_cell other side ≡ Some cell
    → posted side (history chip events name) ≡ taken side (history chip events other)
    ++ option_to_list (pending (ran chip events) cell)
hands_over chip events name other cell side legal empty named named' there here =
    sym (posts_history chip events name cell side legal there)
    ∙ sym (posts_ran chip events name cell side legal there)
    ∙ ap (λ o. option_to_list o ++ written_words chip events cell) (sym empty)
    ∙ flow_ran chip events cell legal
    ∙ ap (λ l. l ++ option_to_list (pending (ran chip events) cell)) (takes_ran chip events other
    cell side legal named' here ∙ takes_history chip events other cell side legal named' here)
