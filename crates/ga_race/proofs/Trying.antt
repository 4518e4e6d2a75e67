-- A try of a node: its move, the parts behind it, and chips at which it does the same.
use Rattle.std.proofs.Common.{◌≡◌, ℕ, ◌<◌, ◌==◌, Bool, true, false, [], ◌∷◌, ◌⊎◌, inl, inr, length, set, slice_get, option_map, Option, Some, None, refl, sym, ap, ◌∙◌, subst, arith}
use Rattle.std.specs.Prelude.{◌&&◌, if◌then◌else◌}
use Rattle.std.proofs.lemmas.Bool.{ne_eqb}
use Rattle.std.proofs.lemmas.Option.{slice_get_within}
use Rattle.ga_place.specs.Cell.{index_of}
use Rattle.ga_place.specs.declared.side.Side.{Side}
use Rattle.ga_place.proofs.Cells.{one_place}
use Rattle.ga_node.specs.Need.{need_of}
use Rattle.ga_chip.specs.declared.outcome.Outcome.{Outcome}
use Rattle.ga_chip.specs.declared.outcome.Outcome.TheVariants.{Held, Moved, Stopped, Waits}
use Rattle.ga_chip.specs.declared.outcome.Try as asked
use Rattle.ga_chip.specs.Outcome.{moved_by}
use Rattle.ga_chip.specs.Part.{Part, after, asks, picked_by}
use Rattle.ga_chip.specs.Chip.{Chip, found_by, part_of, tried, with_changed}
use Rattle.ga_chip.specs.Run.{ClearBreak, Event, Move, PassBreak, Piece, SetBreak, Try, break_cleared, break_passed, break_set, happened, if_moved, move_at, move_in, piece_come, piece_of}
use Rattle.ga_chip.proofs.Lists.{get-set_else, get-set_here}
use Rattle.ga_chip.proofs.Tries.{tried_none, tried_still, tried_there}
use Rattle.ga_chip.proofs.Turns.{count_moves, happened_try}

-- the move that a try of a part is, if it is Moved
abbrev pub move_of : Chip → ℕ → Side → Part → Move
move_of chip name side part = record {
  node = name;
  asked = asks part side;
  found = found_by (asks part side) chip.cells;
  picked = picked_by (need_of part.state) side;
}

-- the outcome of a try of a part, and the part behind it
abbrev pub result_of : Chip → Side → Part → Outcome × Part
result_of chip side part = after part side (found_by (asks part side) chip.cells)

-- What is known of a try that is a move.
pub record Tried (chip : Chip) (name : ℕ) (side : Side) (m : Move) : Type 0 where
  pub part : Part
  pub there : part_of chip name ≡ Some part
  pub moved : (result_of chip side part).0 ≡ Moved
  pub is : m ≡ move_of chip name side part

-- a try that is one move is Moved, and is that move
if_one : (o : Outcome) (one m : Move) → if_moved o one ≡ m ∷ [] → (o ≡ Moved) × (m ≡ one)
if_one Moved one m e = (refl, cc)
if_one Waits one m e = cc
if_one Held one m e = cc
if_one Stopped one m e = cc

-- a try that is a move is known
pub tried_move : (chip : Chip) (name : ℕ) (side : Side) (m : Move)
    → move_in chip (Try name side) ≡ m ∷ [] → Tried chip name side m
unfolding move_in
tried_move chip name side m e = by (part_of chip name) refl e
  where
    by : (o : Option Part) → part_of chip name ≡ o → move_at o chip name side ≡ m ∷ []
        → Tried chip name side m
    by None there f = cc
    by (Some part) there f =
        let it = if_one (result_of chip side part).0 (move_of chip name side part) m f in
        record { part = part; there = there; moved = it.0; is = it.1 }

-- a try that is Moved is a move
pub moved_is : (chip : Chip) (name : ℕ) (side : Side) (part : Part) → part_of chip name ≡ Some part
    → (result_of chip side part).0 ≡ Moved
    → move_in chip (Try name side) ≡ move_of chip name side part ∷ []
unfolding move_in
moved_is chip name side part there moved =
    ap (λ o. move_at o chip name side) there
    ∙ ap (λ o. if_moved o (move_of chip name side part)) moved

-- and its outcome is that of its part
pub outcome_is : (chip : Chip) (name : ℕ) (side : Side) (part : Part)
    → part_of chip name ≡ Some part → (tried chip name side).0 ≡ (result_of chip side part).0
outcome_is chip name side part there = ap (λ r. r.0) (tried_there chip name side part there)

-- The node's part behind its try.
part_tried : (chip : Chip) (name : ℕ) (side : Side) (part : Part)
    → part_of chip name ≡ Some part
    → part_of (happened chip (Try name side)) name ≡ Some (result_of chip side part).1
part_tried chip name side part there =
    ap (λ c. part_of c name)
    (happened_try chip name side ∙ ap (λ r. r.1) (tried_there chip name side part there))
    ∙ get-set_here chip.parts (index_of name) (result_of chip side part).1 part there

-- a part put at one node's place leaves those of the others
set_other : (chip : Chip) (name other : ℕ) (part next : Part) → length chip.parts ≡ 144
    → part_of chip name ≡ Some part → (other ≡ name → ⊥)
    → slice_get (set chip.parts (index_of name) next) (index_of other) ≡ part_of chip other
set_other chip name other part next full there apart =
    get-set_else chip.parts (index_of name) (index_of other) next
    (λ same. apart (sym (one_place name other
    (subst (λ n. index_of name < n) full
    (slice_get_within chip.parts (index_of name) part there)) same)))

-- so the parts of other nodes stay
pub part_other : (chip : Chip) (name : ℕ) (side : Side) (other : ℕ) → length chip.parts ≡ 144
    → (other ≡ name → ⊥) → part_of (happened chip (Try name side)) other ≡ part_of chip other
part_other chip name side other full apart = by (part_of chip name) refl
  where
    by : (o : Option Part) → part_of chip name ≡ o
        → part_of (happened chip (Try name side)) other ≡ part_of chip other
    by None e =
        ap (λ c. part_of c other)
        (happened_try chip name side ∙ ap (λ r. r.1) (tried_none chip name side e))
    by (Some part) e =
        ap (λ c. part_of c other)
        (happened_try chip name side ∙ ap (λ r. r.1) (tried_there chip name side part e))
        ∙ set_other chip name other part (result_of chip side part).1 full e apart

-- a try that is no move changes nothing
pub none_tried : (chip : Chip) (name : ℕ) (side : Side) → move_in chip (Try name side) ≡ []
    → happened chip (Try name side) ≡ chip
none_tried chip name side none =
    happened_try chip name side ∙ tried_still chip name side
    (λ moved. differ (moved_by (tried chip name side).0)
    (ap (λ l. length l) (sym none) ∙ count_moves chip name side) (ap moved_by moved))
  where
    differ : (n : ℕ) → 0 ≡ n → n ≡ 1 → ⊥
    differ n e f = absurd (omega arith)

-- Two chips at which a node has the same part, and its try finds the same.
pub record TriesAlike (one two : Chip) (name : ℕ) (side : Side) (part : Part) : Type 0 where
  pub here : part_of one name ≡ Some part
  pub there : part_of two name ≡ Some part
  pub found : found_by (asks part side) one.cells ≡ found_by (asks part side) two.cells

-- the try is the same move at both
pub same_move : (one two : Chip) (name : ℕ) (side : Side) (part : Part)
    → TriesAlike one two name side part
    → move_in one (Try name side) ≡ move_in two (Try name side)
unfolding move_in
same_move one two name side part a =
    ap (λ o. move_at o one name side) a.here
    ∙ ap (λ found. if_moved (after part side found).0 (record {
      node = name;
      asked = asks part side;
      found = found;
      picked = picked_by (need_of part.state) side;
    })) a.found
    ∙ sym (ap (λ o. move_at o two name side) a.there)

-- and leaves the same part
pub same_part : (one two : Chip) (name : ℕ) (side : Side) (part : Part)
    → TriesAlike one two name side part → part_of (happened one (Try name side)) name
    ≡ part_of (happened two (Try name side)) name
same_part one two name side part a =
    part_tried one name side part a.here ∙ ap (λ found. Some (after part side found).1) a.found
    ∙ sym (part_tried two name side part a.there)

-- An event that is a try.
pub record IsTry (event : Event) : Type 0 where
  pub one : asked.Try
  pub is : event ≡ Try one.node one.side

-- An event that changes a node's breakpoints, its pass or its stream.
pub record Changes (event : Event) : Type 0 where
  pub node : ℕ
  pub change : Part → Part
  pub leads : (chip : Chip)
      → happened chip event ≡ with_changed change (part_of chip node) chip node
  pub none : (chip : Chip) → move_in chip event ≡ []
  pub elsewhere : (opened : Bool) (other : ℕ) → (other ≡ node → ⊥)
      → piece_of opened other event ≡ []

-- an event is one of the two
pub try_or_changes : (event : Event) → IsTry event ⊎ Changes event
unfolding happened move_in
try_or_changes (Try name side) =
    inl (record { one = record { node = name; side = side }; is = refl })
try_or_changes (SetBreak name at) =
    inr (record {
      node = name;
      change = break_set at;
      leads = λ chip. refl;
      none = λ chip. refl;
      elsewhere = λ opened other apart. refl;
    })
try_or_changes (ClearBreak name at) =
    inr (record {
      node = name;
      change = break_cleared at;
      leads = λ chip. refl;
      none = λ chip. refl;
      elsewhere = λ opened other apart. refl;
    })
try_or_changes (PassBreak name) =
    inr (record {
      node = name;
      change = break_passed;
      leads = λ chip. refl;
      none = λ chip. refl;
      elsewhere = λ opened other apart. refl;
    })
try_or_changes (Piece name words) =
    inr (record {
      node = name;
      change = piece_come words;
      leads = λ chip. refl;
      none = λ chip. refl;
      elsewhere = λ opened other apart. none opened (name == other)
          (ne_eqb name other (λ e. apart (sym e)));
    })
  where
    none : (opened b : Bool) → b ≡ false → (if opened && b then words else []) ≡ []
    none true b e = rw e refl
    none false b e = refl

-- the node's part behind a change
part_changed : (event : Event) (c : Changes event) (chip : Chip)
    → part_of (happened chip event) c.node ≡ option_map c.change (part_of chip c.node)
part_changed event c chip = by (part_of chip c.node) refl
  where
    by : (o : Option Part) → part_of chip c.node ≡ o
        → part_of (happened chip event) c.node ≡ option_map c.change (part_of chip c.node)
    by None e =
        ap (λ d. part_of d c.node)
        (c.leads chip ∙ ap (λ o. with_changed c.change o chip c.node) e)
        ∙ e ∙ ap (option_map c.change) (sym e)
    by (Some part) e =
        ap (λ d. part_of d c.node)
        (c.leads chip ∙ ap (λ o. with_changed c.change o chip c.node) e)
        ∙ get-set_here chip.parts (index_of c.node) (c.change part) part e
        ∙ ap (option_map c.change) (sym e)

-- is the same where it was
pub changed_same : (event : Event) (c : Changes event) (one two : Chip)
    → part_of one c.node ≡ part_of two c.node
    → part_of (happened one event) c.node ≡ part_of (happened two event) c.node
changed_same event c one two same =
    part_changed event c one ∙ ap (option_map c.change) same ∙ sym (part_changed event c two)

-- and the parts of other nodes stay
pub changed_other : (event : Event) (c : Changes event) (chip : Chip) (other : ℕ)
    → length chip.parts ≡ 144 → (other ≡ c.node → ⊥)
    → part_of (happened chip event) other ≡ part_of chip other
changed_other event c chip other full apart = by (part_of chip c.node) refl
  where
    by : (o : Option Part) → part_of chip c.node ≡ o
        → part_of (happened chip event) other ≡ part_of chip other
    by None e =
        ap (λ d. part_of d other)
        (c.leads chip ∙ ap (λ o. with_changed c.change o chip c.node) e)
    by (Some part) e =
        ap (λ d. part_of d other)
        (c.leads chip ∙ ap (λ o. with_changed c.change o chip c.node) e)
        ∙ set_other chip c.node other part (c.change part) full e apart
