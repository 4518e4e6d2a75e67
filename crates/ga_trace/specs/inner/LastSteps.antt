-- What an observer keeps of the last steps of all nodes.
use Rattle.std.specs.Prelude.{◌≡◌, ℕ, ◌<◌, List, None, get_or}
use Rattle.ga_place.specs.Cell.{name_at}
use Rattle.ga_chip.specs.Chip.{Chip, state_of}
use Rattle.ga_observe.specs.declared.step.Step.{Step}
use Rattle.ga_trace.specs.declared.last_steps.NodeStep.{NodeStep}
use Rattle.ga_trace.specs.Depth.{r_of}
use Rattle.ga_trace.specs.Last.{last_by}

abbrev pub NO_STEP : NodeStep
NO_STEP = record { r = 0; step = None }

-- R of a node, and no step yet
abbrev pub started : Chip → ℕ → NodeStep
started chip name = record { r = r_of (state_of chip name); step = None }

-- These are R of all nodes of a chip, in order of name, and no steps yet.
pub record HaveStarted (chip : Chip) (nodes : List NodeStep) : Type 0 where
  pub each : (index : ℕ) → index < 144
      → get_or nodes index NO_STEP ≡ started chip (name_at index)

-- the last step of a node behind some steps, if it began with another one
abbrev pub node_last : ℕ → NodeStep → List Step → NodeStep
node_last name old steps = record { r = old.r; step = last_by name old.step steps }

-- The nodes, in order of name, have the last of these steps, if they began with others.
pub record HaveSeen (begun last : List NodeStep) (steps : List Step) : Type 0 where
  pub each : (index : ℕ) → index < 144
      → get_or last index NO_STEP
      ≡ node_last (name_at index) (get_or begun index NO_STEP) steps
