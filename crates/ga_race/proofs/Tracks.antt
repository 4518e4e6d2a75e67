-- The track of a run: a watch along its moves, whose clocks count from the start of the run. It is
-- easier to reason about than the watch over steps, and finds the same races.
use Rattle.std.specs.Prelude.{ℕ, ◌==◌, Bool, false, ◌&&◌, ◌||◌, not, nat_lt, List, [], ◌∷◌, Option, Some, None, if◌then◌else◌}
use Rattle.std.specs.List.{list_any}
use Rattle.std.specs.Option.{option_map_or}
use Rattle.ga_place.specs.Cell.{read_cell}
use Rattle.ga_place.specs.Side.{SIDES, neighbour_of, side_bit}
use Rattle.ga_place.specs.declared.side.Side.{Side}
use Rattle.ga_node.specs.Need.{need_of, takes_at}
use Rattle.ga_chip.specs.Part.{Part, Asks, Nothing, Own, Feed, Post, Take, Check}
use Rattle.ga_chip.specs.Chip.{Chip, part_of}
use Rattle.ga_chip.specs.Stuck.{is_full}
use Rattle.ga_chip.specs.Run.{Event, Move, happened, move_in}
use Rattle.ga_race.specs.Clocks.{Clock, Clocks, clock_of, clocks_by, no_clocks}
use Rattle.ga_race.specs.Watch.{reads_cell}

-- What a track keeps.
pub record Track : Type 0 where
  pub clocks : Clocks
  -- for each cell, how many steps its reader had made with the last take that left it out, or 0
  pub left_at : ℕ → ℕ
  -- whether a race was found
  pub race : Bool

abbrev pub first_track : Track
first_track = record { clocks = no_clocks; left_at = λ cell. 0; race = false }

-- a move is a multiport take that leaves out this side
abbrev pub move_leaves_out : Option Part → List Side → Side → Bool
move_leaves_out (Some part) (taken ∷ more) side =
    takes_at side (need_of part.state) && not (side_bit side == side_bit taken)
move_leaves_out (Some part) [] side = false
move_leaves_out None picked side = false

abbrev pub move_leaves : Chip → Move → Side → Bool
move_leaves chip move side = move_leaves_out (part_of chip move.node) move.picked side

-- a move leaves out a cell, and one of the cells that it leaves out holds a word
abbrev pub move_leaves_cell : Chip → Move → ℕ → Bool
move_leaves_cell chip move cell =
    list_any (λ side. move_leaves chip move side && reads_cell move.node cell side) SIDES

abbrev pub move_leaves_word : Chip → Move → Bool
move_leaves_word chip move =
    list_any (λ side. move_leaves chip move side && is_full chip.cells (read_cell move.node side))
    SIDES

-- a post doesn't come after the last multiport take of its cell's reader that left the cell out
abbrev pub is_move_early : Asks → ℕ → Clock → (ℕ → ℕ) → Bool
is_move_early (Post side cell word) name clock left_at =
    option_map_or (λ reader. nat_lt (clock reader) (left_at cell)) (neighbour_of name side) false
is_move_early (Nothing outcome) name clock left_at = false
is_move_early Own name clock left_at = false
is_move_early (Feed word) name clock left_at = false
is_move_early (Take side cell) name clock left_at = false
is_move_early (Check side cell) name clock left_at = false

-- the track after a move
abbrev pub tracked_by : Chip → Track → Move → Track
tracked_by chip track move = record {
  clocks = clocks_by move track.clocks;
  left_at =
      λ cell. if move_leaves_cell chip move cell then clock_of move track.clocks move.node
      else track.left_at cell;
  race =
      track.race || (move_leaves_word chip move || is_move_early move.asked move.node
      (clock_of move track.clocks) track.left_at);
}

abbrev pub tracked_all : Chip → Track → List Move → Track
tracked_all chip track [] = track
tracked_all chip track (move ∷ ms) = tracked_all chip (tracked_by chip track move) ms

-- after an event, and after a run
abbrev pub tracked : Chip → Track → Event → Track
tracked chip track event = tracked_all chip track (move_in chip event)

abbrev pub track_on : Chip → Track → List Event → Track
track_on chip track [] = track
track_on chip track (event ∷ events) =
    track_on (happened chip event) (tracked chip track event) events

abbrev pub track_finds : Chip → List Event → Bool
track_finds chip events = (track_on chip first_track events).race
