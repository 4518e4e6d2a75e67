-- What the counts of the words of a stack say of these words.
use Rattle.std.specs.Prelude.{◌≡◌, ℕ, ◌+◌, ◌-◌, ◌<◌, ◌≤◌, List, [], ◌∷◌, length, slice_index, Bool, Option, Some, None}
use Rattle.ga_place.specs.declared.side.Side.{Side}
use Rattle.ga_node.specs.State.{State}
use Rattle.ga_chip.specs.Chip.{Chip, state_of}
use Rattle.ga_chip.specs.Legal.{IsLegal}
use Rattle.ga_chip.specs.Run.{Try, happened}
use Rattle.ga_observe.specs.Seen.{steps_in}
use Rattle.ga_observe.specs.declared.step.Step.{Step}
use Rattle.ga_trace.specs.Depth.{BOTH_EMPTY, DATA_ROOM, RETURN_ROOM, after_step, deep_from}
use Rattle.ga_trace.specs.declared.depth.StackDepth.{StackDepth}
use Rattle.ga_trace.specs.declared.depth.StackDepths.{StackDepths}

-- one of a node's stacks
pub data Stack : Type 0 where
  Data : Stack
  Return : Stack

-- the words of a stack, the top one first: its registers, and the eight below them
abbrev pub words_of : Stack → State → List ℕ
words_of Data state = state.t ∷ state.s ∷ state.data_stack
words_of Return state = state.r ∷ state.return_stack

-- how many words a stack has room for
abbrev pub room_of : Stack → ℕ
room_of Data = DATA_ROOM
room_of Return = RETURN_ROOM

-- how deep a stack was
abbrev pub depth_of : Stack → StackDepths → StackDepth
depth_of Data depths = depths.data_stack
depth_of Return depths = depths.return_stack

-- each stack of a node has all its words, as after reset
abbrev pub HasStacks : State → Type 0
HasStacks state = (stack : Stack) → length (words_of stack state) ≡ room_of stack

-- there is room for the words that were pushed and not yet popped
abbrev pub HasRoom : Stack → StackDepths → Type 0
HasRoom stack depths = (depth_of stack depths).words ≤ room_of stack

-- The word at a height of a stack: the first of those that were pushed and not yet popped is at
-- height 0.
abbrev pub word_at : Stack → State → StackDepths → ℕ → ℕ
word_at stack state depths height =
    slice_index (words_of stack state) ((depth_of stack depths).words - (height + 1))

-- A step keeps each word below the top one of a stack at its height, if there is room for the words
-- before the step and behind it.
abbrev pub StepKeepsWords : Type 0
StepKeepsWords =
    (stack : Stack) (chip : Chip) (name turn : ℕ) (side : Side) (step : Step) (old new : State)
    (depths more : StackDepths) (height : ℕ) → HasStacks old
    → state_of chip name ≡ Some old → steps_in turn chip (Try name side) ≡ step ∷ []
    → state_of (happened chip (Try name side)) name ≡ Some new
    → more ≡ after_step (Some step) old.r depths → HasRoom stack depths → HasRoom stack more
    → height + 1 < (depth_of stack more).words
    → word_at stack new more height ≡ word_at stack old depths height

-- How deep a node's stacks were in a number of turns, counted from none, and the chip behind them.
-- No more turns are made when the node is done, by its state, or no node can move.
abbrev pub depths_after : (Option State → Bool) → ℕ → Chip → ℕ → StackDepths × Chip
depths_after done name chip turns = deep_from turns 0 0 done name BOTH_EMPTY chip

-- In a run, a word of a stack stays at its height as long as there are words above it, if no push
-- was found for which there was no room.
abbrev pub WordsStay : Type 0
WordsStay =
    (stack : Stack) (chip : Chip) (name : ℕ) (done : Option State → Bool) (begun old new : State)
    (from until height : ℕ) → IsLegal chip → HasStacks begun → state_of chip name ≡ Some begun
    → from ≤ until → state_of (depths_after done name chip from).1 name ≡ Some old
    → state_of (depths_after done name chip until).1 name ≡ Some new
    → (depth_of stack (depths_after done name chip until).0).passed ≡ None
    → ((turns : ℕ) → from < turns → turns ≤ until
    → height + 1 < (depth_of stack (depths_after done name chip turns).0).words)
    → word_at stack new (depths_after done name chip until).0 height
    ≡ word_at stack old (depths_after done name chip from).0 height
