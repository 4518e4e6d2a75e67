-- Steps of one node alone.
use Rattle.std.specs.Prelude.{ℕ, zero, suc, Bool, true, false, List, [], ◌++◌, codes, find, Option, Some, None}
use Rattle.ga_place.specs.Side.{SIDES}
use Rattle.ga_place.specs.declared.side.Side.{Side}
use Rattle.ga_chip.specs.Chip.{Chip, state_of, tried}
use Rattle.ga_chip.specs.Run.{Try, stands_held}
use Rattle.ga_chip.specs.declared.outcome.Outcome.{Outcome}
use Rattle.ga_chip.specs.declared.outcome.Outcome.TheVariants.{Moved, Waits, Held, Stopped}
use Rattle.ga_observe.specs.Seen.{steps_in}
use Rattle.ga_observe.specs.declared.step.Step.{Step}
use Rattle.ga_node.specs.State.{State}
use Rattle.ga_asm.specs.Image.{ImageView}
use Rattle.ga_waits.specs.Sides.{rest_text}
use Rattle.ga_trace.specs.Last.{last_by}
use Rattle.ga_trace.specs.Line.{step_line}

abbrev pub is_moved : Outcome → Bool
is_moved Moved = true
is_moved Waits = false
is_moved Held = false
is_moved Stopped = false

-- the first side, in the order right, down, left, up, that a try of a node has to name to move it
abbrev pub moving_side : Chip → ℕ → Option Side
moving_side chip name = find (λ side. is_moved (tried chip name side).0) SIDES

-- the step of a node by a try at that side, if there is one, and the chip afterwards
abbrev pub step_at : ℕ → Chip → Option Side → Option Step × Chip
step_at name chip None = (None, chip)
step_at name chip (Some side) =
    (last_by name None (steps_in 0 chip (Try name side)), (tried chip name side).1)

unfoldable pub one_step : ℕ → Chip → Option Step × Chip
one_step name chip = step_at name chip (moving_side chip name)

-- the line of a step, by the states of its node before it and after it
abbrev pub line_between : List (ℕ × ImageView) → Step → Option State → Option State → List ℕ
line_between images step (Some old) (Some new) = step_line images step old new
line_between images step old new = []

-- why a node makes no step, as a line
abbrev pub rest_line : ℕ → Chip → List ℕ
rest_line name chip =
    rest_text (stands_held chip name) name (state_of chip name) ++ codes "\n"

-- the text of a step and of those behind it, by what it was
abbrev pub step_told : List (ℕ × ImageView) → ℕ → Chip → (Chip → List ℕ × Chip)
    → Option Step × Chip → List ℕ × Chip
step_told images name old rest (None, next) = (rest_line name next, next)
step_told images name old rest (Some step, next) = (
  line_between images step (state_of old name) (state_of next name) ++ (rest next).0,
  (rest next).1,
)

-- The lines of at most this many steps of a node, each by a try at the side that moves it, and
-- behind them why it makes no more, if it makes fewer; and the chip afterwards.
abbrev pub stepped : List (ℕ × ImageView) → ℕ → ℕ → Chip → List ℕ × Chip
stepped images name zero chip = ([], chip)
stepped images name (suc left) chip =
    step_told images name chip (stepped images name left) (one_step name chip)
