-- Tries made by hand: the caller has the parts of the nodes that a seat has.
use Rattle.std.specs.Prelude.{◌≡◌, ℕ, List, Option, Some, length, slice_get}
use Rattle.ga_place.specs.Cell.{index_of}
use Rattle.ga_chip.specs.Part.{Part}
use Rattle.ga_port.specs.declared.seat.Holding.{Holding}
use Rattle.ga_port.specs.Cells.{CellsView}
use Rattle.ga_port.specs.Seat.{SeatView, kept}

-- the parts are in order of name, and the seat has each of them
pub record AreKept (nodes : List (Option Holding)) (parts : List Part) : Type 0 where
  pub count : length parts ≡ 144
  pub placed : (index : ℕ) (part : Part) → slice_get parts index ≡ Some part
      → index_of part.state.node ≡ index
  pub has : (index : ℕ) (part : Part) → slice_get parts index ≡ Some part
      → (one : Holding) × (kept nodes part.state.node ≡ Some one) × (one.part ≡ part)

-- a seat of these cells, with the nodes of which the caller has the parts
pub record AreInHand (cells : CellsView) (seat : SeatView) (parts : List Part) : Type 0 where
  pub own : seat.table ≡ cells.table
  pub same : AreKept seat.nodes parts
