-- What a seat has of its nodes: of each the part of the chip, and the sides that its tries have
-- named so far.
use Rattle.std.specs.Prelude.{ℕ, suc, Bool, not, if◌then◌else◌, List, [], ◌∷◌, ◌++◌, map, Option, Some, None, set, slice_index_or}
use Rattle.std.specs.Option.{option_or}
use Rattle.atomic_table.specs.Seated.{TableId}
use Rattle.ga_place.specs.Cell.{index_of, name_at}
use Rattle.ga_place.specs.Node.{is_among}
use Rattle.ga_place.specs.declared.side.Side.{Side}
use Rattle.ga_chip.specs.declared.outcome.Try.{Try}
use Rattle.ga_chip.specs.Part.{Part, after}
use Rattle.ga_port.specs.declared.seat.Holding.{Holding}

-- which cells these are, of all that are there
abbrev pub CellsId : Type 0
CellsId = TableId

-- which cells a seat is of, and its nodes in order of name; of a node that isn't its own it has
-- nothing
pub record SeatView : Type 0 where
  pub table : CellsId
  pub nodes : List (Option Holding)

-- what a seat has of a node
unfoldable pub kept : List (Option Holding) → ℕ → Option Holding
kept nodes name = slice_index_or nodes (index_of name) None

-- all nodes of a chip, before any try
unfoldable pub untried : List Part → List (Option Holding)
untried parts = map (λ part. Some (record { part = part; sides = [] })) parts

-- a node after a try that names a side and found this word pending in the cell that it asks for
abbrev pub kept_after : Holding → Side → Option ℕ → Holding
kept_after one side found =
    record { part = (after one.part side found).1; sides = one.sides ++ side ∷ [] }

abbrev pub tried_of : Option Holding → List (Option Holding) → Try → Option ℕ
    → List (Option Holding)
tried_of (Some one) nodes what found =
    set nodes (index_of what.node) (Some (kept_after one what.side found))
tried_of None nodes what found = nodes

-- the nodes after a try of one of them
unfoldable pub tried_in : List (Option Holding) → Try → Option ℕ → List (Option Holding)
tried_in nodes what found = tried_of (kept nodes what.node) nodes what found

-- the nodes of which a test holds, from an index on in order of name
abbrev pub kept_where : (ℕ → Bool) → ℕ → List (Option Holding) → List (Option Holding)
kept_where test index [] = []
kept_where test index (one ∷ rest) =
    (if test (name_at index) then one else None) ∷ kept_where test (suc index) rest

-- those of the nodes that have these names, and the others
unfoldable pub only : List ℕ → List (Option Holding) → List (Option Holding)
only names nodes = kept_where (λ name. is_among name names) 0 nodes

unfoldable pub without : List ℕ → List (Option Holding) → List (Option Holding)
without names nodes = kept_where (λ name. not (is_among name names)) 0 nodes

-- the nodes of two seats
unfoldable pub merged : List (Option Holding) → List (Option Holding) → List (Option Holding)
merged [] others = others
merged (one ∷ rest) [] = one ∷ rest
merged (one ∷ rest) (other ∷ others) = option_or one other ∷ merged rest others
