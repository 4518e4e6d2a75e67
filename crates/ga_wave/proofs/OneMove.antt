-- A node makes at most one move in a turn.
use Rattle.std.proofs.Common.{◌≡◌, ◌∙◌, ◌<◌, ◌⊎◌, inl, inr, ℕ, zero, suc, ◌+◌, List, [], ◌∷◌, ◌++◌, Option, Some, None, ap, ap₂, append-nil, arith, refl, subst, sym}
use Rattle.std.proofs.lemmas.Bool.{cases_eq, ne_eqb}
use Rattle.ga_place.specs.Cell.{index_of, name_at}
use Rattle.ga_place.specs.declared.side.Side.{Side}
use Rattle.ga_place.specs.inner.Index.{index_back}
use Rattle.ga_node.specs.Need.{need_of}
use Rattle.ga_chip.specs.declared.outcome.Outcome.{Outcome}
use Rattle.ga_chip.specs.declared.outcome.Outcome.TheVariants.{Moved, Waits, Held, Stopped}
use Rattle.ga_chip.specs.Part.{Part, after, asks, picked_by}
use Rattle.ga_chip.specs.Chip.{Chip, found_by, part_of}
use Rattle.ga_chip.specs.Run.{Event, Move, Try, happened, if_moved, move_at, move_in, moves, moves_of, turn_of}
use Rattle.ga_chip.proofs.Moments.{one_at_most}
use Rattle.ga_chip.proofs.Runs.{moves_of-append}
use Rattle.ga_chip.proofs.Turns.{turn_end, turn_left, turn_next, turn_whole}

-- none, or one
abbrev pub OneOrNone : List Move → Type 0
OneOrNone made = (made ≡ []) ⊎ ((move : Move) × (made ≡ move ∷ []))

-- a try of another node
none_if : (name : ℕ) (outcome : Outcome) (move : Move) → (move.node ≡ name → ⊥)
    → moves_of name (if_moved outcome move) ≡ []
none_if name Moved move apart = rw (ne_eqb move.node name apart) refl
none_if name Waits move apart = refl
none_if name Held move apart = refl
none_if name Stopped move apart = refl

none_else : (chip : Chip) (node name : ℕ) (side : Side) → (node ≡ name → ⊥)
    → moves_of name (move_in chip (Try node side)) ≡ []
unfolding move_in
none_else chip node name side apart = by (part_of chip node)
  where
    by : (found : Option Part) → moves_of name (move_at found chip node side) ≡ []
    by None = refl
    by (Some part) =
        none_if name (after part side (found_by (asks part side) chip.cells)).0 (record {
          node = node;
          asked = asks part side;
          found = found_by (asks part side) chip.cells;
          picked = picked_by (need_of part.state) side;
        }) apart

-- the rest of a turn, from an index on
abbrev made_from : Chip → ℕ → Side → ℕ → List Move
made_from chip name side index = moves_of name (moves chip (turn_left side index))

after_try : (chip : Chip) (name : ℕ) (side : Side) (index : ℕ) → index < 144
    → made_from chip name side index
    ≡ moves_of name (move_in chip (Try (name_at index) side))
    ++ made_from (happened chip (Try (name_at index) side)) name side (index + 1)
after_try chip name side index below =
    ap (λ events. moves_of name (moves chip events)) (turn_next side index below)
    ∙ moves_of-append name (move_in chip (Try (name_at index) side))
    (moves (happened chip (Try (name_at index) side)) (turn_left side (index + 1)))

-- behind its own try it makes none
none_later : (chip : Chip) (name : ℕ) (side : Side) (left index : ℕ) → index + left ≡ 144
    → index_of name < index → made_from chip name side index ≡ []
none_later chip name side zero index all past =
    ap (λ events. moves_of name (moves chip events)) (turn_end side index (omega arith))
none_later chip name side (suc left) index all past =
    let below : index < 144 = omega arith in
    let event = Try (name_at index) side in
    after_try chip name side index below
    ∙ ap₂ (λ one more. one ++ more) (none_else chip (name_at index) name side (apart below))
    (none_later (happened chip event) name side left (index + 1) (omega arith) (omega arith))
  where
    apart : index < 144 → name_at index ≡ name → ⊥
    apart below same =
        let here : index_of name ≡ index = ap index_of (sym same) ∙ index_back index below in
        omega arith

one_or_none : (chip : Chip) (name : ℕ) (side : Side) (left index : ℕ) → index + left ≡ 144
    → OneOrNone (made_from chip name side index)
one_or_none chip name side zero index all =
    inl (ap (λ events. moves_of name (moves chip events)) (turn_end side index (omega arith)))
one_or_none chip name side (suc left) index all =
    by (cases_eq (name_at index) name)
    (one_or_none (happened chip event) name side left (index + 1) (omega arith))
  where
    event : Event
    event = Try (name_at index) side

    one : List Move
    one = moves_of name (move_in chip event)

    more : List Move
    more = made_from (happened chip event) name side (index + 1)

    below : index < 144
    below = omega arith

    by : (name_at index ≡ name) ⊎ (name_at index ≡ name → ⊥) → OneOrNone more
        → OneOrNone (made_from chip name side index)
    by (inl same) rest =
        let here : index_of name ≡ index = ap index_of (sym same) ∙ index_back index below in
        let none : more ≡ [] =
        none_later (happened chip event) name side left (index + 1) (omega arith) (omega arith) in
        subst OneOrNone (sym (after_try chip name side index below ∙ ap (λ made. one ++ made) none
        ∙ append-nil one)) (one_at_most chip event name)
    by (inr apart) rest =
        subst OneOrNone (sym (after_try chip name side index below
        ∙ ap (λ made. made ++ more) (none_else chip (name_at index) name side apart))) rest

-- its moves in a turn
pub turn_once : (chip : Chip) (name : ℕ) (side : Side)
    → OneOrNone (moves_of name (moves chip (turn_of side)))
turn_once chip name side =
    subst (λ events. OneOrNone (moves_of name (moves chip events))) (turn_whole side)
    (one_or_none chip name side 144 0 (omega arith))
