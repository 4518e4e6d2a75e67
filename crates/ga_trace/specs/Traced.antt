-- Turns of all nodes, and the steps of one of them.
use Rattle.std.specs.Prelude.{◌≡◌, ◌≤◌, ℕ, zero, suc, ◌+◌, ◌-◌, ◌==◌, Bool, ◌||◌, List, [], ◌++◌, length, Option, Some, None, if◌then◌else◌}
use Rattle.ga_asm.specs.Image.{ImageView}
use Rattle.ga_chip.specs.Chip.{Chip, state_of}
use Rattle.std.specs.Option.{option_map_or}
use Rattle.std.specs.List.{filter, flat_map}
use Rattle.ga_chip.specs.Run.{moves, ran, side_of_turn, stands_held, turn_of, turns_of}
use Rattle.ga_observe.specs.Seen.{numbered, steps_seen, turns_numbered}
use Rattle.ga_observe.specs.declared.step.Step.{Step}
use Rattle.ga_trace.specs.Last.{last_by}
use Rattle.ga_trace.specs.Stepped.{line_between, rest_line}

-- the chip after the turn of a number, and how many steps it makes
abbrev pub turned : ℕ → Chip → Chip
turned number chip = ran chip (turn_of (side_of_turn number))

abbrev pub moved_in : ℕ → Chip → ℕ
moved_in number chip = length (moves chip (turn_of (side_of_turn number)))

-- the step that a node makes in it, if it makes one
abbrev pub step_in : ℕ → ℕ → Chip → Option Step
step_in name number chip =
    last_by name None (steps_seen chip (numbered number (turn_of (side_of_turn number))))

-- the line of that step, if there is one
abbrev pub turn_line : List (ℕ × ImageView) → ℕ → ℕ → Chip → List ℕ
turn_line images name number chip =
    option_map_or (λ step. line_between images step (state_of chip name)
    (state_of (turned number chip) name)) (step_in name number chip) []

-- how many turns in a row made no step, after one more
abbrev pub quiet_after : ℕ → ℕ → ℕ
quiet_after quiet moved = if moved == 0 then quiet + 1 else 0

-- no step comes after four turns without one, nor of a node that is held
abbrev pub is_over : ℕ → ℕ → Chip → Bool
is_over name quiet chip = (quiet == 4) || stands_held chip name

-- one step less, if there was one
abbrev pub less_by : ℕ → Option Step → ℕ
less_by steps None = steps
less_by steps (Some step) = steps - 1

-- The lines of a number of steps of a node in at most `left` turns, behind a number of turns, the
-- last of which were quiet; and behind them why it makes no more, if it makes fewer. The chip
-- afterwards.
unfoldable pub traced_from : List (ℕ × ImageView) → ℕ → ℕ → ℕ → ℕ → ℕ → Chip → List ℕ × Chip
traced_from images name zero turn quiet steps chip =
    (if steps == 0 then [] else rest_line name chip, chip)
traced_from images name (suc left) turn quiet steps chip =
    if steps == 0 then ([], chip) else if is_over name quiet chip then (rest_line name chip, chip)
    else
    let rest = traced_from images name left (suc turn)
    (quiet_after quiet (moved_in turn chip)) (less_by steps (step_in name turn chip))
    (turned turn chip) in
    (turn_line images name turn chip ++ rest.0, rest.1)

-- at most 1,000,000 turns are made
unfoldable pub traced : List (ℕ × ImageView) → ℕ → ℕ → Chip → List ℕ × Chip
traced images name steps chip = traced_from images name 1000000 0 0 steps chip

-- ---- the first steps

-- the chip behind a number of turns
abbrev pub behind : Chip → ℕ → Chip
behind chip turns = ran chip (turns_of turns)

-- the steps that a node makes in a number of turns, in order
abbrev pub own_steps : ℕ → Chip → ℕ → List Step
own_steps name chip turns =
    filter (λ (step : Step). step.node == name) (steps_seen chip (turns_numbered turns))

-- the line of a step of a run, by the node's states in front of its turn and behind it
abbrev pub line_in : List (ℕ × ImageView) → Chip → Step → List ℕ
line_in images chip step =
    line_between images step (state_of (behind chip step.turn) step.node)
    (state_of (behind chip (suc step.turn)) step.node)

-- Some turns were made. The node makes at most this many steps in them, and the text has a line
-- for each, in order. If they are fewer, the last line says why.
pub record ShowsFirst (images : List (ℕ × ImageView)) (name steps : ℕ) (chip : Chip)
    (text : List ℕ) (next : Chip) : Type 0 where
  pub turns : ℕ
  pub made : next ≡ behind chip turns
  pub most : length (own_steps name chip turns) ≤ steps
  pub lines : text
      ≡ flat_map (line_in images chip) (own_steps name chip turns)
      ++ (if length (own_steps name chip turns) == steps then [] else rest_line name next)
