-- The chip: the nodes' parts in order of name, and the word pending in each cell. A try of one
-- node.
use Rattle.std.specs.Prelude.{◌≡◌, ℕ, ◌==◌, true, false, List, [], map, replicate, Option, Some, None, Result, Ok, Err, is_some, option_map, set, slice_get, slice_index_or, if◌then◌else◌}
use Rattle.std.specs.Option.{option_and_then}
use Rattle.std.specs.List.{range_with_len}
use Rattle.ga_place.specs.Cell.{index_of, name_at}
use Rattle.ga_place.specs.Node.{is_edge}
use Rattle.ga_place.specs.declared.side.Side.{Side}
use Rattle.ga_node.specs.State.{State, booting_state, loaded_state, reset_state}
use Rattle.ga_chip.specs.declared.error.ChipError.{ChipError}
use Rattle.ga_chip.specs.declared.error.ChipError.TheVariants.{AlreadyGiven, Begun, NotEdge, NotHeld}
use Rattle.ga_chip.specs.declared.outcome.Outcome.{Outcome}
use Rattle.ga_chip.specs.declared.outcome.Outcome.TheVariants.{Held, Waits}
use Rattle.ga_chip.specs.Part.{Counts, Part, Asks, Nothing, Own, Feed, Post, Check, Take, StandsAtBreak, asks, after}

-- 144 parts and 524 cells; a cell holds its pending word, or none
pub record Chip : Type 0 where
  pub parts : List Part
  pub cells : List (Option ℕ)

-- a node's part; a name of no node has none
abbrev pub part_of : Chip → ℕ → Option Part
part_of chip name = slice_get chip.parts (index_of name)

-- a node's state
abbrev pub state_of : Chip → ℕ → Option State
state_of chip name = option_map (λ part. part.state) (part_of chip name)

-- the word pending in a cell
abbrev pub pending_in : List (Option ℕ) → ℕ → Option ℕ
pending_in cells cell = slice_index_or cells cell None

abbrev pub pending : Chip → ℕ → Option ℕ
pending chip cell = pending_in chip.cells cell

-- what a try finds pending in the cell that it asks for
abbrev pub found_by : Asks → List (Option ℕ) → Option ℕ
found_by (Take side cell) cells = pending_in cells cell
found_by (Check side cell) cells = pending_in cells cell
found_by (Nothing outcome) cells = None
found_by Own cells = None
found_by (Feed fed) cells = None
found_by (Post side cell word) cells = None

-- the cells after a try: a post's word is pending, and a take leaves its cell empty
abbrev pub cells_after : Asks → List (Option ℕ) → List (Option ℕ)
cells_after (Post side cell word) cells = set cells cell (Some word)
cells_after (Take side cell) cells = set cells cell None
cells_after (Nothing outcome) cells = cells
cells_after Own cells = cells
cells_after (Feed fed) cells = cells
cells_after (Check side cell) cells = cells

-- the chip with another part of a node
abbrev pub with_part : Chip → ℕ → Part → Chip
with_part chip name part = record chip { parts = set chip.parts (index_of name) part }

-- the chip with a node's part changed; a name of no node changes nothing
abbrev pub with_changed : (Part → Part) → Option Part → Chip → ℕ → Chip
with_changed change None chip name = chip
with_changed change (Some part) chip name = with_part chip name (change part)

-- the outcome of a try of a node, and the chip, by what the try asked for and the node's part
-- afterwards
abbrev pub tried_by : Chip → ℕ → Asks → Outcome × Part → Outcome × Chip
tried_by chip name asked result = (
  result.0,
  record
      { parts = set chip.parts (index_of name) result.1; cells = cells_after asked chip.cells },
)

abbrev pub tried_at : Option Part → Chip → ℕ → Side → Outcome × Chip
tried_at None chip name side = (Waits, chip)
tried_at (Some part) chip name side =
    tried_by chip name (asks part side) (after part side (found_by (asks part side) chip.cells))

-- A try of a node that names a side: its outcome, and the chip afterwards.
unfoldable pub tried : Chip → ℕ → Side → Outcome × Chip
tried chip name side = tried_at (part_of chip name) chip name side

-- a node that a try finds held
abbrev pub IsHeld : Chip → ℕ → Type 0
IsHeld chip name = (part : Part) × (part_of chip name ≡ Some part) × StandsAtBreak part

-- nothing at any side
abbrev pub no_counts : Counts
no_counts = record { right = 0; down = 0; left = 0; up = 0 }

-- a node's part after reset: no breakpoint, no pass, no stream, and nothing written or read
abbrev pub reset_part : ℕ → Part
reset_part name = record {
  state = reset_state name;
  breaks = replicate 512 false;
  pass = false;
  stream = None;
  opened = false;
  written = no_counts;
  read = no_counts;
}

-- The chip after reset: each node's part, and nothing pending.
unfoldable pub reset_chip : Chip
reset_chip = record {
  parts = map (λ index. reset_part (name_at index)) (range_with_len 0 144);
  cells = replicate 524 None;
}

-- Why a node can't be given words or a stream: it has a stream, or it has made a step.
abbrev pub part_refusal : Part → Option ChipError
part_refusal part =
    if is_some part.stream then Some AlreadyGiven else if part.state.steps == 0 then None
    else Some Begun

abbrev pub refusal : Chip → ℕ → Option ChipError
refusal chip name = option_and_then part_refusal (part_of chip name)

-- Why a node can't be given a stream: it isn't at an edge of the chip, or for the reasons above.
abbrev pub stream_refusal : Chip → ℕ → Option ChipError
stream_refusal chip name = if is_edge name then refusal chip name else Some NotEdge

-- why a node can't be given a pass, by what would come of a try of it: it isn't held
abbrev pub unless_held : Outcome → Option ChipError
unless_held Held = None
unless_held _ = Some NotHeld

-- the answer of a call that may be refused; `with_words` then gives back the words
abbrev pub answer_of : Option ChipError → Result (Unit {0}) ChipError
answer_of None = Ok tt
answer_of (Some fault) = Err fault

abbrev pub with_words : {W : Type 0} → W → Option ChipError → Result (Unit {0}) (ChipError × W)
with_words words None = Ok tt
with_words words (Some fault) = Err (fault, words)

-- a call that is refused leaves the chip as it was
abbrev pub unless_refused : Option ChipError → Chip → Chip → Chip
unless_refused None changed chip = changed
unless_refused (Some fault) changed chip = chip

-- a part whose node is as after reset, with these words at the front of its memory and P at the
-- entry
abbrev pub given : List ℕ → ℕ → Part → Part
given words entry part = record part { state = loaded_state part.state.node words entry }

-- The chip after a node was given words and an entry.
unfoldable pub placed : Chip → ℕ → List ℕ → ℕ → Chip
placed chip name words entry = with_changed (given words entry) (part_of chip name) chip name

-- a part whose node is as after reset, and loads itself from these words
abbrev pub streaming : List ℕ → Part → Part
streaming words part =
    record part { state = booting_state part.state.node; stream = Some words; opened = false }

-- The chip after a node was given a stream.
unfoldable pub streamed : Chip → ℕ → List ℕ → Chip
streamed chip name words = with_changed (streaming words) (part_of chip name) chip name

-- a part whose node is as after reset, and loads itself from words that are still to come
abbrev pub opening : Part → Part
opening part =
    record part { state = booting_state part.state.node; stream = Some []; opened = true }

-- The chip after a node's stream was opened.
unfoldable pub stream_opened : Chip → ℕ → Chip
stream_opened chip name = with_changed opening (part_of chip name) chip name
