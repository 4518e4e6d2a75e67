-- The rule of the cells. Whatever threads do at the cells, at each moment there is one run of the
-- chip, along tries of its nodes from the opening chip on, so that the words of the table are the
-- cells of the chip to which the run leads, and what all seats have of their nodes is what the run
-- makes of these; and each node is at exactly one seat.
use Rattle.std.specs.Prelude.{◌≡◌, ℕ, ◌+◌, ◌<◌, ◌^◌, List, [], ◌∷◌, ◌++◌, length, replicate, Option, Some, None}
use mathlib.Core.Option.{some}
use lib.ListN.{get_elem?}
use Rattle.atomic_table.specs.Table.{State}
use Rattle.ga_place.specs.Node.{IsNodeName}
use Rattle.ga_chip.specs.declared.outcome.Try.{Try}
use Rattle.ga_chip.specs.Part.{Part}
use Rattle.ga_chip.specs.Chip.{Chip, part_of, pending_in}
use Rattle.ga_chip.specs.Run.{ran, sides_tried, tries_of}
use Rattle.ga_port.specs.declared.seat.Holding.{Holding}
use Rattle.ga_port.specs.Seat.{kept}

-- what a cell holds: 0, or the pending word and a bit above it
abbrev pub word_of : Option ℕ → ℕ
word_of None = 0
word_of (Some word) = 262144 + word

-- a line of memory, 64 bytes: the word of a cell, and seven that nobody writes
abbrev pub line_of : Option ℕ → List ℕ
line_of cell = word_of cell ∷ replicate 7 0

abbrev pub lines_of : List (Option ℕ) → List ℕ
lines_of [] = []
lines_of (cell ∷ rest) = line_of cell ++ lines_of rest

-- All words of the table: a line for each cell, so that no two cells share one, and a line of no
-- cell.
unfoldable pub row_of : List (Option ℕ) → List ℕ
row_of cells = lines_of cells ++ line_of None

-- each pending word has 18 bits
abbrev pub AreSmall : List (Option ℕ) → Type 0
AreSmall cells = (cell word : ℕ) → pending_in cells cell ≡ Some word → word < 2 ^ 18

-- The words, and what all seats have, are those of the chip to which these tries lead.
pub record IsOf (chip : Chip) (tries : List Try)
    (owner : ℕ → ℕ) (s : State ℕ (List (Option Holding))) : Type 0 where
  -- the words are those of the cells
  pub words : s.words ≡ row_of chip.cells
  pub cells : length chip.cells ≡ 524
  pub small : AreSmall chip.cells
  pub nodes : length chip.parts ≡ 144
  -- a seat has its nodes' parts, and the sides that their tries name
  pub parts : (id name : ℕ) (view : List (Option Holding)) (one : Holding)
      → get_elem? s.views id ≡ some view → kept view name ≡ Some one
      → part_of chip name ≡ Some one.part
  pub sides : (id name : ℕ) (view : List (Option Holding)) (one : Holding)
      → get_elem? s.views id ≡ some view → kept view name ≡ Some one
      → one.sides ≡ sides_tried name tries
  -- each node is at one seat
  pub once : (id name : ℕ) (view : List (Option Holding)) (one : Holding)
      → get_elem? s.views id ≡ some view → kept view name ≡ Some one → owner name ≡ id
  pub there : (name : ℕ) (part : Part) → part_of chip name ≡ Some part
      → (view : List (Option Holding)) × (one : Holding)
      × (get_elem? s.views (owner name) ≡ some view) × (kept view name ≡ Some one)
  -- nothing but nodes is tried
  pub beyond : (name : ℕ) → (IsNodeName name → ⊥) → sides_tried name tries ≡ []

-- there is one run from the opening chip
abbrev pub Holds : Chip → State ℕ (List (Option Holding)) → Type 0
Holds opening s =
    (tries : List Try) × (owner : ℕ → ℕ) × IsOf (ran opening (tries_of tries)) tries owner s
