-- A turn that was made, as the code keeps it.
use Rattle.std.specs.Prelude.{◌≡◌, ℕ, List, [], Some}
use Rattle.std.specs.Option.{option_map_or}
use Rattle.ga_asm.specs.Image.{ImageView}
use Rattle.ga_chip.specs.Chip.{Chip, state_of}
use Rattle.ga_node.specs.State.{State}
use Rattle.ga_trace.specs.declared.traced.MadeTurn.{MadeTurn}
use Rattle.ga_trace.specs.Line.{step_line}
use Rattle.ga_trace.specs.Traced.{moved_in, step_in, turned}

-- the turn of a number, in which one node was watched
pub record IsMade (name number : ℕ) (old new : Chip) (made : MadeTurn) : Type 0 where
  pub chip : new ≡ turned number old
  pub moved : made.moved ≡ moved_in number old
  pub step : made.step ≡ step_in name number old
  pub before : Some made.old ≡ state_of old name

-- the line of the node's step, if it made one
abbrev pub made_line : List (ℕ × ImageView) → MadeTurn → State → List ℕ
made_line images made new =
    option_map_or (λ step. step_line images step made.old new) made.step []
