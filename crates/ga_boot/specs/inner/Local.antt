-- What one node does by itself: its moves, as words that it is given, takes, posts, and checks.
use Rattle.std.specs.Prelude.{◌≡◌, ℕ, ◌==◌, if◌then◌else◌, List, [], ◌∷◌, map, Option, Some, None}
use Rattle.std.specs.List.{flat_map}
use Rattle.ga_place.specs.Side.{one_side, sides_with, side_bit}
use Rattle.ga_place.specs.declared.side.Side.{Side}
use Rattle.ga_place.specs.declared.side.Sides.{Sides}
use Rattle.ga_node.specs.State.{State}
use Rattle.ga_node.specs.Need.{wants}
use Rattle.ga_node.specs.Slot.{moved}
use Rattle.ga_node.specs.declared.need.Need.{Need}
use Rattle.ga_node.specs.declared.need.Need.TheVariants as need
use Rattle.ga_chip.specs.Part.{looked_at, Asks}
use Rattle.ga_chip.specs.Part as chip
use Rattle.ga_chip.specs.Chip.{Chip}
use Rattle.ga_chip.specs.Run.{Event, Move, moves, moves_of}

-- a move of a node, without cells
pub data Local : Type 0 where
  Own : Local
  Feed : ℕ → Local
  Take : Side → ℕ → Local
  Post : Side → ℕ → Local
  Check : Side → Local

-- the word that a move gives the node
abbrev pub given : Local → Option ℕ
given Own = None
given (Feed word) = Some word
given (Take side word) = Some word
given (Post side word) = None
given (Check side) = None

-- a node after moves, its count of steps aside
abbrev pub lived : State → List Local → State
lived state [] = state
lived state (move ∷ moves) = lived (moved state (given move)) moves

-- a move answers a need; a take looks only at its side
abbrev pub Suits : Local → Need → Type 0
Suits Own n = n ≡ need.Own
Suits (Feed word) n = n ≡ need.Input
Suits (Take side word) n = n ≡ need.Take (sides_with (side_bit side))
Suits (Post side word) n = n ≡ need.Post side word
Suits (Check side) n = n ≡ need.Check side

-- each move answers the node's need
abbrev pub Goes : State → List Local → Type 0
Goes state [] = Unit {0}
Goes state (move ∷ moves) = Suits move (wants state) × Goes (moved state (given move)) moves

-- no move changes the node's memory
abbrev pub Calm : State → List Local → Type 0
Calm state [] = Unit {0}
Calm state (move ∷ moves) =
    ((moved state (given move)).ram ≡ state.ram) × Calm (moved state (given move)) moves

-- a move answers a need, which may be a multiport read
abbrev pub Answers : Local → Need → Type 0
Answers (Take side word) n =
    (sides : Sides) × (n ≡ need.Take sides) × (looked_at (one_side sides) sides side ≡ Some side)
Answers m n = Suits m n

abbrev pub Lives : State → List Local → Type 0
Lives state [] = Unit {0}
Lives state (move ∷ moves) = Answers move (wants state) × Lives (moved state (given move)) moves

-- the words that moves take at a side, post at a side, and are fed
abbrev pub taken_at : Side → Local → List ℕ
taken_at side (Take at word) = if side_bit at == side_bit side then word ∷ [] else []
taken_at side _ = []

abbrev pub posted_at : Side → Local → List ℕ
posted_at side (Post at word) = if side_bit at == side_bit side then word ∷ [] else []
posted_at side _ = []

abbrev pub fed_by : Local → List ℕ
fed_by (Feed word) = word ∷ []
fed_by _ = []

abbrev pub taken : Side → List Local → List ℕ
taken side moves = flat_map (taken_at side) moves

abbrev pub posted : Side → List Local → List ℕ
posted side moves = flat_map (posted_at side) moves

abbrev pub fed : List Local → List ℕ
fed moves = flat_map fed_by moves

-- a move of a run as a move of its node
abbrev pub local_by : Asks → Option ℕ → Local
local_by chip.Own found = Own
local_by (chip.Feed word) found = Feed word
local_by (chip.Post side cell word) found = Post side word
local_by (chip.Check side cell) found = Check side
local_by (chip.Take side cell) (Some word) = Take side word
local_by _ _ = Own

abbrev pub local_of : Move → Local
local_of move = local_by move.asked move.found

-- what a node did in a run
abbrev pub history : Chip → List Event → ℕ → List Local
history chip events name = map local_of (moves_of name (moves chip events))
