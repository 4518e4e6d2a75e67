-- Clocks of a run: which steps of other nodes come before a node's step by causes. A word is posted
-- before it is taken, and taken before its writer sees that it was.
use Rattle.std.specs.Prelude.{ℕ, ◌+◌, ◌==◌, max, List, [], ◌∷◌, length, if◌then◌else◌}
use Rattle.ga_chip.specs.Part.{Asks, Nothing, Own, Feed, Post, Take, Check}
use Rattle.ga_chip.specs.Chip.{Chip}
use Rattle.ga_chip.specs.Run.{Event, Move, moves, moves_of}

-- A clock: a number of steps for each node.
abbrev pub Clock : Type 0
Clock = ℕ → ℕ

-- The clocks at a moment of a run.
pub record Clocks : Type 0 where
  -- for each node, the steps that come before its last step or are that step
  pub nodes : ℕ → Clock
  -- for each cell, those of the last post there, and those of the last take
  pub posts : ℕ → Clock
  pub takes : ℕ → Clock

abbrev pub no_clock : Clock
no_clock name = 0

abbrev pub no_clocks : Clocks
no_clocks = record { nodes = λ name. no_clock; posts = λ cell. no_clock; takes = λ cell. no_clock }

-- the steps of either clock
abbrev pub joined : Clock → Clock → Clock
joined one other name = max (one name) (other name)

-- one more step of a node
abbrev pub ticked : ℕ → Clock → Clock
ticked node clock name = if name == node then clock name + 1 else clock name

-- the clocks with another one of a node or a cell
abbrev pub with_clock : ℕ → Clock → (ℕ → Clock) → ℕ → Clock
with_clock place clock clocks at = if at == place then clock else clocks at

-- what a move waited for: a take for the post of its word, and a check for the take of it
abbrev pub cause_of : Asks → Clocks → Clock
cause_of (Take side cell) clocks = clocks.posts cell
cause_of (Check side cell) clocks = clocks.takes cell
cause_of (Nothing outcome) clocks = no_clock
cause_of Own clocks = no_clock
cause_of (Feed word) clocks = no_clock
cause_of (Post side cell word) clocks = no_clock

-- the clock of a move's node after the move
abbrev pub clock_of : Move → Clocks → Clock
clock_of move clocks =
    ticked move.node (joined (clocks.nodes move.node) (cause_of move.asked clocks))

-- the clock of a post is kept for its cell, and so is that of a take
abbrev pub post_clocks : Asks → Clock → (ℕ → Clock) → ℕ → Clock
post_clocks (Post side cell word) clock clocks = with_clock cell clock clocks
post_clocks (Nothing outcome) clock clocks = clocks
post_clocks Own clock clocks = clocks
post_clocks (Feed word) clock clocks = clocks
post_clocks (Take side cell) clock clocks = clocks
post_clocks (Check side cell) clock clocks = clocks

abbrev pub take_clocks : Asks → Clock → (ℕ → Clock) → ℕ → Clock
take_clocks (Take side cell) clock clocks = with_clock cell clock clocks
take_clocks (Nothing outcome) clock clocks = clocks
take_clocks Own clock clocks = clocks
take_clocks (Feed word) clock clocks = clocks
take_clocks (Post side cell word) clock clocks = clocks
take_clocks (Check side cell) clock clocks = clocks

-- the clocks after a move
abbrev pub clocks_by : Move → Clocks → Clocks
clocks_by move clocks = record {
  nodes = with_clock move.node (clock_of move clocks) clocks.nodes;
  posts = post_clocks move.asked (clock_of move clocks) clocks.posts;
  takes = take_clocks move.asked (clock_of move clocks) clocks.takes;
}

-- and after some moves
abbrev pub clocks_on : Clocks → List Move → Clocks
clocks_on clocks [] = clocks
clocks_on clocks (move ∷ ms) = clocks_on (clocks_by move clocks) ms

-- the clocks at the end of a run
abbrev pub clocks : Chip → List Event → Clocks
clocks chip events = clocks_on no_clocks (moves chip events)

-- how many steps a node makes in a run
abbrev pub steps_in : Chip → List Event → ℕ → ℕ
steps_in chip events name = length (moves_of name (moves chip events))
