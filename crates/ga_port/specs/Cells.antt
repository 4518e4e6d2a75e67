-- The cells of a chip: the chip by which they were opened, what a try must ask for, and their state
-- at the end.
use Rattle.std.specs.Prelude.{◌≡◌, ℕ, Bool, true, false, List, [], Option, Some}
use Rattle.ga_place.specs.Node.{IsNodeName}
use Rattle.ga_place.specs.declared.side.Side.{Side}
use Rattle.ga_chip.specs.declared.outcome.Try.{Try}
use Rattle.ga_chip.specs.declared.outcome.Outcome.TheVariants.{Moved}
use Rattle.ga_chip.specs.declared.asks.Asks as told
use Rattle.ga_chip.specs.declared.asks.Asks.TheVariants as call
use Rattle.ga_chip.specs.Asks.{asked_of}
use Rattle.ga_chip.specs.Part.{after}
use Rattle.ga_chip.specs.Chip.{Chip, part_of}
use Rattle.ga_chip.specs.Run.{ran, sides_tried, tries_of}
use Rattle.ga_port.specs.declared.seat.Holding.{Holding}
use Rattle.ga_port.specs.Seat.{CellsId, kept}

-- which cells these are, and the chip that they were opened by
pub record CellsView : Type 0 where
  pub table : CellsId
  pub opening : Chip

-- The seat has the try's node, whose part asks for this.
abbrev pub AsksToPost : List (Option Holding) → Try → ℕ → ℕ → Type 0
AsksToPost nodes what cell word =
    (one : Holding) × (at : Side) × (kept nodes what.node ≡ Some one)
    × (asked_of one.part what.side ≡ call.Post at cell word)

abbrev pub AsksToTake : List (Option Holding) → Try → ℕ → Type 0
AsksToTake nodes what cell =
    (one : Holding) × (at : Side) × (kept nodes what.node ≡ Some one)
    × (asked_of one.part what.side ≡ call.Take at cell)

abbrev pub AsksToCheck : List (Option Holding) → Try → ℕ → Type 0
AsksToCheck nodes what cell =
    (one : Holding) × (at : Side) × (kept nodes what.node ≡ Some one)
    × (asked_of one.part what.side ≡ call.Check at cell)

-- whether what a try asks for touches no cell
abbrev pub is_off_cells : told.Asks → Bool
is_off_cells call.Own = true
is_off_cells (call.Nothing outcome) = true
is_off_cells (call.Post side cell word) = false
is_off_cells (call.Take side cell) = false
is_off_cells (call.Check side cell) = false

abbrev pub AsksForNoCell : List (Option Holding) → Try → Type 0
AsksForNoCell nodes what =
    (one : Holding) × (kept nodes what.node ≡ Some one)
    × (is_off_cells (asked_of one.part what.side) ≡ true)

-- the try, which found this word pending, is Moved
abbrev pub IsMoved : List (Option Holding) → Try → Option ℕ → Type 0
IsMoved nodes what found =
    (one : Holding) × (kept nodes what.node ≡ Some one)
    × ((after one.part what.side found).0 ≡ Moved)

-- The cells at the end are those of the chip to which these tries lead from the opening chip.
pub record IsEnd (opening : Chip) (nodes : List (Option Holding)) (row : List (Option ℕ))
    (tries : List Try) : Type 0 where
  pub cells : row ≡ (ran opening (tries_of tries)).cells
  -- of each of its nodes the seat has the part in that chip, and the sides that the tries of it
  -- name
  pub parts : (name : ℕ) (one : Holding) → kept nodes name ≡ Some one
      → part_of (ran opening (tries_of tries)) name ≡ Some one.part
  pub sides : (name : ℕ) (one : Holding) → kept nodes name ≡ Some one
      → one.sides ≡ sides_tried name tries
  -- nothing but nodes is tried
  pub beyond : (name : ℕ) → (IsNodeName name → ⊥) → sides_tried name tries ≡ []
