-- Sets of nodes that nothing from outside the set can move any more.
use Rattle.std.specs.Prelude.{◌≡◌, ◌≢◌, ℕ, ◌==◌, Bool, true, false, ◌&&◌, ◌||◌, not, List, [], get_or, length, Option, Some, None, is_some}
use Rattle.std.specs.List.{list_all}
use Rattle.std.specs.Option.{option_map_or}
use Rattle.ga_place.specs.Cell.{cell_of, index_of, read_cell}
use Rattle.ga_place.specs.Side.{SIDES, has_side, is_among, neighbour_of}
use Rattle.ga_place.specs.declared.side.Side.{Side}
use Rattle.ga_place.specs.declared.side.Sides.{Sides}
use Rattle.ga_node.specs.Need.{need_of}
use Rattle.ga_node.specs.declared.need.Need.{Need}
use Rattle.ga_node.specs.declared.need.Need.TheVariants as need
use Rattle.ga_chip.specs.declared.outcome.Outcome.TheVariants.{Moved}
use Rattle.ga_chip.specs.Part.{Part}
use Rattle.ga_chip.specs.Chip.{Chip, part_of, pending_in, tried}
use Rattle.ga_chip.specs.Run.{Event, moves, moves_of, ran, words_fed, words_left}
use Rattle.ga_chip.specs.Legal.{IsLegal}

-- A set of nodes is a test of their names.

-- a word is pending in a cell; without a cell, none is
abbrev pub is_full : List (Option ℕ) → Option ℕ → Bool
is_full cells (Some cell) = is_some (pending_in cells cell)
is_full cells None = false

-- A side at which a node waits is shut: the node has no neighbour there; or the cell between them
-- is as the node finds it while it waits, and the neighbour is in the set.
abbrev pub is_shut : (ℕ → Bool) → Bool → Option ℕ → Bool
is_shut inside waits None = true
is_shut inside waits (Some neighbour) = waits && inside neighbour

-- no word can come to a node at a side: none is pending there, and its neighbour, if it has one, is
-- in the set
abbrev pub is_dry : (ℕ → Bool) → List (Option ℕ) → ℕ → Side → Bool
is_dry inside cells name side =
    is_shut inside (not (is_full cells (read_cell name side))) (neighbour_of name side)

-- nor at any of some sides
abbrev pub is_dry_at : (ℕ → Bool) → List (Option ℕ) → ℕ → Sides → Bool
is_dry_at inside cells name sides =
    list_all (λ side. not (is_among side sides) || is_dry inside cells name side) SIDES

-- the word that a node posted at a side can't be read: it is pending, and its reader, if there is
-- one, is in the set
abbrev pub is_unread : (ℕ → Bool) → List (Option ℕ) → ℕ → Side → Bool
is_unread inside cells name side =
    is_shut inside (is_full cells (cell_of name side)) (neighbour_of name side)

-- Whether a node can't go on, as long as no node of the set does, by its need and its name, the
-- words left of its stream, and the cells. It has stopped; or no word can come to it at any side at
-- which it takes one; or the word that it posted can't be read; or it posts at a side without a
-- neighbour; or no word of its stream is left.
abbrev pub is_stuck_by : (ℕ → Bool) → List (Option ℕ) → ℕ → List ℕ → Need → Bool
is_stuck_by inside cells name words need.Own = false
is_stuck_by inside cells name words (need.Take sides) = is_dry_at inside cells name sides
is_stuck_by inside cells name words (need.Post to word) = not (has_side name to)
is_stuck_by inside cells name words (need.Check to) = is_unread inside cells name to
is_stuck_by inside cells name words need.Input = length words == 0
is_stuck_by inside cells name words (need.Stopped stop) = true

-- Only the need counts: a breakpoint may be cleared at any time.
unfoldable pub is_stuck : (ℕ → Bool) → List (Option ℕ) → Part → Bool
is_stuck inside cells part =
    is_stuck_by inside cells part.state.node (words_left part.stream) (need_of part.state)

-- A set is closed: each name in it is that of a node, which can't go on as long as no node of the
-- set does.
abbrev pub IsClosed : Chip → (ℕ → Bool) → Type 0
IsClosed chip inside =
    (name : ℕ) → inside name ≡ true
    → option_map_or (is_stuck inside chip.cells) (part_of chip name) false ≡ true

-- every closed set is a part of this one
abbrev pub HoldsEachClosed : Chip → (ℕ → Bool) → Type 0
HoldsEachClosed chip inside =
    (other : ℕ → Bool) (name : ℕ) → IsClosed chip other → other name ≡ true → inside name ≡ true

-- A call answers a set as a list: for each node, in order of name, whether it is in the set. This
-- is its test of names.
abbrev pub has_node : List Bool → ℕ → Bool
has_node nodes name = get_or nodes (index_of name) false

-- a run feeds no word to the streams of the set's nodes
abbrev pub IsUnfed : Chip → List Event → (ℕ → Bool) → Type 0
IsUnfed chip events inside = (name : ℕ) → inside name ≡ true → words_fed chip events name ≡ []

-- a node is as it was, apart from its breakpoints and its pass
pub record StandsStill (part now : Part) : Type 0 where
  pub state : now.state ≡ part.state
  -- the same words are left of its stream
  pub stream : words_left now.stream ≡ words_left part.stream
  pub opened : now.opened ≡ part.opened
  pub written : now.written ≡ part.written
  pub read : now.read ≡ part.read

-- A run leaves the nodes of a set as they were.
pub record LeavesStuck (chip : Chip) (events : List Event) (inside : ℕ → Bool) : Type 0 where
  pub parts : (name : ℕ) (part now : Part) → inside name ≡ true → part_of chip name ≡ Some part
      → part_of (ran chip events) name ≡ Some now → StandsStill part now
  -- none of their tries was Moved
  pub moves : (name : ℕ) → inside name ≡ true → moves_of name (moves chip events) ≡ []
  -- and none would be now
  pub tries : (name : ℕ) (side : Side) → inside name ≡ true
      → (tried (ran chip events) name side).0 ≢ Moved
  -- since the set is closed still
  pub closed : IsClosed (ran chip events) inside

-- The nodes of a closed set are stuck: no run of a legal chip changes one of them, whatever is
-- tried and in what order, wherever breakpoints are set, cleared and passed, and whatever the
-- streams of other nodes are fed.
abbrev pub Stuck : Type 0
Stuck =
    (chip : Chip) (inside : ℕ → Bool) (events : List Event) → IsLegal chip → IsClosed chip inside
    → IsUnfed chip events inside → LeavesStuck chip events inside
