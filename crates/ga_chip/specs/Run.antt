-- Runs of the chip along a list of events, and the words written and taken in them.
use Rattle.std.specs.Prelude.{ℕ, zero, suc, ◌%◌, ◌==◌, Bool, true, false, ◌&&◌, ◌||◌, set, slice_index_or, if◌then◌else◌, List, [], ◌∷◌, ◌++◌, get_or, map, take, Option, Some, None}
use Rattle.std.specs.Option.{option_map_or}
use Rattle.std.specs.List.{filter, flat_map, range_with_len}
use Rattle.ga_place.specs.Side.{SIDES}
use Rattle.ga_place.specs.declared.side.Side.{Side}
use Rattle.ga_place.specs.declared.side.Side.TheVariants.{Right}
use Rattle.ga_node.specs.State.{State}
use Rattle.ga_node.specs.Need.{need_of}
use Rattle.ga_place.specs.Cell.{name_at}
use Rattle.ga_chip.specs.declared.outcome.Try as asked
use Rattle.ga_chip.specs.declared.outcome.Outcome.{Outcome}
use Rattle.ga_chip.specs.declared.outcome.Outcome.TheVariants.{Moved, Waits, Held, Stopped}
use Rattle.ga_chip.specs.Part.{Part, Asks, Nothing, Feed, Post, Take, asks, after, picked_by}
use Rattle.ga_chip.specs.Chip.{Chip, part_of, state_of, found_by, tried, with_changed}

-- What happens to a chip. Each event names a node.
pub data Event : Type 0 where
  -- a try that names a side
  Try : ℕ → Side → Event
  -- an address becomes a breakpoint, or is none any more
  SetBreak : ℕ → ℕ → Event
  ClearBreak : ℕ → ℕ → Event
  -- a pass, if the node is held
  PassBreak : ℕ → Event
  -- the node's stream goes on with these words, if it was opened
  Piece : ℕ → List ℕ → Event

-- a list of tries
abbrev pub tries_of : List asked.Try → List Event
tries_of tries = map (λ one. Try one.node one.side) tries

-- the sides that the tries of a node name, in order
abbrev pub sides_tried : ℕ → List asked.Try → List Side
sides_tried name tries = map (λ one. one.side) (filter (λ one. one.node == name) tries)

-- the side of the j-th of some turns, from 0: right, down, left, up, and again
abbrev pub side_of_turn : ℕ → Side
side_of_turn turn = slice_index_or SIDES (turn % 4) Right

-- one try of each node in order of name, all with one side
unfoldable pub turn_of : Side → List Event
turn_of side = map (λ index. Try (name_at index) side) (range_with_len 0 144)

-- n turns, one after another
unfoldable pub turns_of : ℕ → List Event
turns_of count = flat_map (λ turn. turn_of (side_of_turn turn)) (range_with_len 0 count)

abbrev pub is_hold : Asks → Bool
is_hold (Nothing Held) = true
is_hold _ = false

-- whether a node's tries are held, whatever side they name
abbrev pub stands_held : Chip → ℕ → Bool
stands_held chip name = option_map_or (λ part. is_hold (asks part Right)) (part_of chip name) false

-- whether an address is a breakpoint of a node
abbrev pub has_break : Chip → ℕ → ℕ → Bool
has_break chip name at =
    option_map_or (λ part. get_or part.breaks at false) (part_of chip name) false

-- a part with a breakpoint added or removed, or with a pass if the node is held
abbrev pub break_set : ℕ → Part → Part
break_set at part = record part { breaks = set part.breaks at true }

abbrev pub break_cleared : ℕ → Part → Part
break_cleared at part = record part { breaks = set part.breaks at false }

abbrev pub break_passed : Part → Part
break_passed part = record part { pass = part.pass || is_hold (asks part Right) }

-- the words left of a stream
abbrev pub words_left : Option (List ℕ) → List ℕ
words_left (Some words) = words
words_left None = []

-- a part to whose stream a piece has come: one that was opened goes on with more words, and no
-- other
abbrev pub piece_come : List ℕ → Part → Part
piece_come words part = record part {
  stream = if part.opened then Some (words_left part.stream ++ words) else part.stream;
}

-- the words that an event feeds to a node's stream, by whether that was opened
abbrev pub piece_of : Bool → ℕ → Event → List ℕ
piece_of opened name (Piece other words) = if opened && (other == name) then words else []
piece_of opened name _ = []

abbrev pub pieces : Bool → ℕ → List Event → List ℕ
pieces opened name events = flat_map (piece_of opened name) events

-- whether a node's stream was opened; no event opens one
abbrev pub is_open : Chip → ℕ → Bool
is_open chip name = option_map_or (λ part. part.opened) (part_of chip name) false

-- the words that a node's stream is fed in a run
abbrev pub words_fed : Chip → List Event → ℕ → List ℕ
words_fed chip events name = pieces (is_open chip name) name events

-- the chip after an event
unfoldable pub happened : Chip → Event → Chip
happened chip (Try name side) = (tried chip name side).1
happened chip (SetBreak name at) = with_changed (break_set at) (part_of chip name) chip name
happened chip (ClearBreak name at) = with_changed (break_cleared at) (part_of chip name) chip name
happened chip (PassBreak name) = with_changed break_passed (part_of chip name) chip name
happened chip (Piece name words) = with_changed (piece_come words) (part_of chip name) chip name

-- the chip after a list of events
abbrev pub ran : Chip → List Event → Chip
ran chip [] = chip
ran chip (event ∷ events) = ran (happened chip event) events

-- A try that was Moved.
pub record Move : Type 0 where
  -- the node's name
  pub node : ℕ
  -- what the try asked for, and the word that it found pending in that cell
  pub asked : Asks
  pub found : Option ℕ
  -- the side that it named, if it was a multiport read
  pub picked : List Side

abbrev pub if_moved : Outcome → Move → List Move
if_moved Moved move = move ∷ []
if_moved Waits move = []
if_moved Held move = []
if_moved Stopped move = []

abbrev pub move_at : Option Part → Chip → ℕ → Side → List Move
move_at None chip name side = []
move_at (Some part) chip name side =
    if_moved (after part side (found_by (asks part side) chip.cells)).0 (record {
      node = name;
      asked = asks part side;
      found = found_by (asks part side) chip.cells;
      picked = picked_by (need_of part.state) side;
    })

-- the move that an event is, if it is one
unfoldable pub move_in : Chip → Event → List Move
move_in chip (Try name side) = move_at (part_of chip name) chip name side
move_in chip (SetBreak name at) = []
move_in chip (ClearBreak name at) = []
move_in chip (PassBreak name) = []
move_in chip (Piece name words) = []

-- the moves of a run in order
abbrev pub moves : Chip → List Event → List Move
moves chip [] = []
moves chip (event ∷ events) = move_in chip event ++ moves (happened chip event) events

-- the moves of one node
abbrev pub moves_of : ℕ → List Move → List Move
moves_of name all = filter (λ move. move.node == name) all

-- the word that a move posts at a cell, and the one that it takes from it
abbrev pub posted_by : ℕ → Asks → List ℕ
posted_by cell (Post side at word) = if at == cell then word ∷ [] else []
posted_by cell _ = []

abbrev pub taken_by : ℕ → Asks → Option ℕ → List ℕ
taken_by cell (Take side at) (Some word) = if at == cell then word ∷ [] else []
taken_by cell _ _ = []

-- the word that a try takes of its node's stream
abbrev pub input_by : Asks → List ℕ
input_by (Feed word) = word ∷ []
input_by _ = []

-- the words posted in a run at a cell, in order, and those taken from it
abbrev pub written_words : Chip → List Event → ℕ → List ℕ
written_words chip events cell = flat_map (λ move. posted_by cell move.asked) (moves chip events)

abbrev pub taken_words : Chip → List Event → ℕ → List ℕ
taken_words chip events cell =
    flat_map (λ move. taken_by cell move.asked move.found) (moves chip events)

-- the words that a node takes of its stream in a run, in order, and those of its first k moves
abbrev pub input_words : Chip → List Event → ℕ → List ℕ
input_words chip events name =
    flat_map (λ move. input_by move.asked) (moves_of name (moves chip events))

abbrev pub input_after : Chip → List Event → ℕ → ℕ → List ℕ
input_after chip events name k =
    flat_map (λ move. input_by move.asked) (take k (moves_of name (moves chip events)))

-- the sides of a node's multiport reads in a run
abbrev pub sides_of : Chip → List Event → ℕ → List Side
sides_of chip events name = flat_map (λ move. move.picked) (moves_of name (moves chip events))

abbrev pub is_some_move : List Move → Bool
is_some_move [] = false
is_some_move (move ∷ rest) = true

-- a node's state after its k-th move in a run, if it makes k moves
abbrev pub node_after : Chip → List Event → ℕ → ℕ → Option State
node_after chip events name zero = state_of chip name
node_after chip [] name (suc k) = None
node_after chip (event ∷ events) name (suc k) =
    if is_some_move (moves_of name (move_in chip event)) then node_after (happened chip event)
    events name k else node_after (happened chip event) events name (suc k)
