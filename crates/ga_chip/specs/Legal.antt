-- Legal chips: the numbers of each cell agree with what is pending in it.
use Rattle.std.specs.Prelude.{◌≡◌, ℕ, ◌+◌, ◌≤◌, [], length, map, false, Some}
use Rattle.std.specs.Option.{option_to_list}
use Rattle.ga_place.specs.Cell.{cell_of}
use Rattle.ga_place.specs.Side.{neighbour_of}
use Rattle.ga_place.specs.declared.side.Side.{Side}
use Rattle.ga_node.specs.State.{State}
use Rattle.ga_chip.specs.Part.{Part, count_at}
use Rattle.ga_chip.specs.Chip.{Chip, part_of, pending}

-- the node has posted a word at the side and has not yet seen that it was read
abbrev pub StandsAtCheck : State → Side → Type 0
StandsAtCheck state side = (word : ℕ) × (state.posted ≡ Some (side, word))

-- A legal chip.
pub record IsLegal (chip : Chip) : Type 0 where
  -- it has all nodes and all cells
  pub parts : length chip.parts ≡ 144
  pub cells : length chip.cells ≡ 524
  -- the nodes are in order of name
  pub named : (name : ℕ) (part : Part) → part_of chip name ≡ Some part → part.state.node ≡ name
  -- what was written into a cell is what was read from it and what is pending
  pub balanced : (name other cell : ℕ) (side : Side) (writer reader : Part)
      → cell_of name side ≡ Some cell → neighbour_of name side ≡ Some other
      → part_of chip name ≡ Some writer → part_of chip other ≡ Some reader → count_at side
      writer.written ≡ count_at side reader.read + length (option_to_list (pending chip cell))
  -- if a word is pending, the cell's writer is at the check of that cell
  pub checked : (name cell word : ℕ) (side : Side) (writer : Part) → cell_of name side ≡ Some cell
      → part_of chip name ≡ Some writer → pending chip cell ≡ Some word
      → StandsAtCheck writer.state side
  -- no cell was written more often than its writer stepped
  pub within_steps : (name : ℕ) (side : Side) (writer : Part) → part_of chip name ≡ Some writer
      → count_at side writer.written ≤ writer.state.steps

-- a part without breakpoints and pass
abbrev pub unbroken : Part → Part
unbroken part = record part { breaks = []; pass = false }

-- two chips differ in breakpoints and passes at most
pub record DifferInBreaks (one two : Chip) : Type 0 where
  pub parts : map unbroken one.parts ≡ map unbroken two.parts
  pub cells : one.cells ≡ two.cells
