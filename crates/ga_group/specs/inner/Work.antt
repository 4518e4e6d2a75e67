-- What workers keep: the parts in memory are what their seats have of the nodes.
use Rattle.std.specs.Prelude.{◌≡◌, ℕ, ◌<◌, ◌≤◌, true, false, List, [], ◌++◌, length, map, Vec, Option, Some, None, slice_get}
use Rattle.std.specs.List.{concat}
use Rattle.ga_place.specs.Cell.{index_of}
use Rattle.ga_place.specs.Node.{IsNodeName, is_among}
use Rattle.ga_place.specs.declared.side.Side.{Side}
use Rattle.ga_chip.specs.Ahead.{IsFreeFor, ahead}
use Rattle.ga_chip.specs.Asks.{asked_of, look_of, looks_of}
use Rattle.ga_chip.specs.declared.outcome.Try.{Try}
use Rattle.ga_chip.specs.Part.{Part}
use Rattle.ga_port.specs.declared.seat.Holding.{Holding}
use Rattle.ga_port.specs.Seat.{CellsId, SeatView, kept}
use Rattle.ga_group.specs.Plan.{first_repeated, groups_in}

-- the names of the nodes of parts
abbrev pub names_of : List Part → List ℕ
names_of parts = map (λ part. part.state.node) parts

-- The seat has the node of this part. The part has made this many own steps more than the node
-- there.
pub record IsAheadBy (made : ℕ) (part : Part) (nodes : List (Option Holding)) : Type 0 where
  pub one : Holding
  pub has : kept nodes part.state.node ≡ Some one
  pub may : IsFreeFor made one.part
  pub same : ahead made one.part ≡ part
  pub below : index_of part.state.node < 144

-- so with each of some parts, by the number for its place
pub record AreAheadBy (made : ℕ → ℕ) (parts : List Part)
    (nodes : List (Option Holding)) : Type 0 where
  pub at : (index : ℕ) (part : Part) → slice_get parts index ≡ Some part
      → IsAheadBy (made index) part nodes

-- the seat has this part of its node
abbrev pub IsLent : Part → List (Option Holding) → Type 0
IsLent part nodes = IsAheadBy 0 part nodes

-- so with each of some parts
abbrev pub AreLent : List Part → List (Option Holding) → Type 0
AreLent parts nodes = AreAheadBy (λ index. 0) parts nodes

-- A worker may try the nodes of these parts with this seat: no node has two of the parts.
pub record IsReadyBy (made : ℕ → ℕ) (table : CellsId) (seat : SeatView)
    (parts : List Part) : Type 0 where
  pub own : seat.table ≡ table
  pub lent : AreAheadBy made parts seat.nodes
  pub once : first_repeated [] (names_of parts) ≡ None

abbrev pub IsReady : CellsId → SeatView → List Part → Type 0
IsReady table seat parts = IsReadyBy (λ index. 0) table seat parts

-- The nodes with these names have got tries that name these sides, and of the others nothing has
-- changed.
pub record HaveGained (old new : List (Option Holding)) (names : List ℕ)
    (sides : List Side) : Type 0 where
  pub tried : (name : ℕ) (one : Holding) → is_among name names ≡ true → kept old name ≡ Some one
      → (part : Part) × (kept new name ≡ Some (record { part = part; sides = one.sides ++ sides }))
  pub others : (name : ℕ) → is_among name names ≡ false → kept new name ≡ kept old name

-- A seat, and the parts that are borrowed with it, after a worker's tries: each node of these parts
-- has got tries that name these sides, and its part may be ahead of the seat.
pub record HasWorkedBy (made : ℕ → ℕ) (before after : SeatView) (old new : List Part)
    (sides : List Side) : Type 0 where
  pub table : after.table ≡ before.table
  pub names : names_of new ≡ names_of old
  pub lent : AreAheadBy made new after.nodes
  pub gained : HaveGained before.nodes after.nodes (names_of old) sides

abbrev pub HasWorked : SeatView → SeatView → List Part → List Part → List Side → Type 0
HasWorked before after old new sides = HasWorkedBy (λ index. 0) before after old new sides

-- Parts, nodes and groups of nodes are in one order.
pub record AreGrouped {A : Type 0} (groups : List (Vec ℕ A)) (nodes : List ℕ)
    (parts : List Part) : Type 0 where
  pub nodes_is : concat (groups_in groups) ≡ nodes
  pub parts_is : names_of parts ≡ nodes
  pub few : length nodes ≤ 144

-- No two of the names are one.
pub record AreApart (names : List ℕ) : Type 0 where
  pub places : (here there name : ℕ) → slice_get names here ≡ Some name
      → slice_get names there ≡ Some name → here ≡ there

-- Each node of the chip has one of the parts, and no node two.
pub record HasAllNodes (parts : List Part) : Type 0 where
  pub count : length parts ≡ 144
  pub at : (name : ℕ) → IsNodeName name
      → (place : ℕ) × (slice_get (names_of parts) place ≡ Some name)
  pub once : AreApart (names_of parts)

-- Each of some parts is one of others.
pub record AreSome (parts others : List Part) : Type 0 where
  pub at : (index : ℕ) (part : Part) → slice_get parts index ≡ Some part
      → (place : ℕ) × (slice_get others place ≡ Some part)

-- where the tries of a node look, if it is known
abbrev pub IsKnown : Part → Option (List (Option ℕ)) → Type 0
IsKnown part known = (looks : List (Option ℕ)) → known ≡ Some looks → looks_of part ≡ Some looks

-- so of each of some parts
pub record AreKnown (parts : List Part) (known : List (Option (List (Option ℕ)))) : Type 0 where
  pub at : (index : ℕ) (part : Part) (one : Option (List (Option ℕ)))
      → slice_get parts index ≡ Some part → slice_get known index ≡ Some one → IsKnown part one

-- A try of a node of the seat looks at this cell, or at none.
abbrev pub LooksAt : List (Option Holding) → Try → Option ℕ → Type 0
LooksAt nodes what look =
    (one : Holding) × (kept nodes what.node ≡ Some one)
    × (look_of (asked_of one.part what.side) ≡ Some look)
