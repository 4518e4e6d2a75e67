-- How deep the stacks of all nodes are, turn by turn.
use Rattle.std.specs.Prelude.{◌≡◌, ℕ, ◌-◌, ◌<◌, List, get_or, length}
use Rattle.ga_place.specs.Cell.{name_at}
use Rattle.ga_chip.specs.Chip.{Chip, state_of}
use Rattle.ga_trace.specs.declared.depth.StackDepths.{StackDepths}
use Rattle.ga_trace.specs.declared.last_steps.NodeStep.{NodeStep}
use Rattle.ga_trace.specs.Depth.{BOTH_EMPTY, after_step, deep_from, never, r_of}
use Rattle.ga_trace.specs.Traced.{step_in}
use Rattle.ga_trace.specs.inner.LastSteps.{NO_STEP}

-- both stacks of a node after its step in a turn, if it made one
abbrev pub deepened : NodeStep → StackDepths → StackDepths
deepened last depths = after_step last.step last.r depths

-- These are the depths of all nodes, in order of name, with their last steps in a turn.
pub record HaveSteps (last : List NodeStep) (old new : List StackDepths) : Type 0 where
  pub all : length new ≡ 144
  pub each : (index : ℕ) → index < 144
      → get_or new index BOTH_EMPTY
      ≡ deepened (get_or last index NO_STEP) (get_or old index BOTH_EMPTY)

-- These are the depths of all nodes behind the turn of a number.
pub record HaveTurn (number : ℕ) (chip : Chip) (old new : List StackDepths) : Type 0 where
  pub all : length new ≡ 144
  pub each : (index : ℕ) → index < 144
      → get_or new index BOTH_EMPTY
      ≡ after_step (step_in (name_at index) number chip) (r_of (state_of chip (name_at index)))
      (get_or old index BOTH_EMPTY)

-- The depths of all nodes behind a number of turns lead to the same as those before all turns.
pub record AreOnTheWay (most number quiet : ℕ) (start chip : Chip) (old depths : List StackDepths)
    : Type 0 where
  pub all : length depths ≡ 144
  pub each : (index : ℕ) → index < 144
      → deep_from (most - number) number quiet never (name_at index)
      (get_or depths index BOTH_EMPTY) chip
      ≡ deep_from most 0 0 never (name_at index) (get_or old index BOTH_EMPTY) start

-- These are the depths of all nodes, and the chip, behind at most `most` turns.
pub record HaveTurns (most : ℕ) (start chip : Chip) (old new : List StackDepths) : Type 0 where
  pub all : length new ≡ 144
  pub each : (index : ℕ) → index < 144
      → (get_or new index BOTH_EMPTY, chip)
      ≡ deep_from most 0 0 never (name_at index) (get_or old index BOTH_EMPTY) start
