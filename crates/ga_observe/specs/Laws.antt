-- Steps and moves.
use Rattle.std.specs.Prelude.{◌≡◌, ℕ, ◌+◌, List, ◌++◌, map}
use Rattle.ga_chip.specs.Chip.{Chip}
use Rattle.ga_chip.specs.Run.{Event, Move, moves, ran, side_of_turn, turn_of, turns_of}
use Rattle.ga_observe.specs.declared.step.Step.{Step}
use Rattle.ga_observe.specs.Seen.{numbered, steps_seen, turns_numbered}

-- numbered events without their numbers
abbrev pub events_in : List (ℕ × Event) → List Event
events_in events = map (λ (one : ℕ × Event). one.1) events

-- Each move of a run is a step, by the same node and in the same order, and nothing else is.
abbrev pub StepsAreMoves : Type 0
StepsAreMoves =
    (chip : Chip) (events : List (ℕ × Event))
    → map (λ (step : Step). step.node) (steps_seen chip events)
    ≡ map (λ (move : Move). move.node) (moves chip (events_in events))

-- The numbered events of some turns are those of the turns.
abbrev pub TurnsAreNumbered : Type 0
TurnsAreNumbered = (count : ℕ) → events_in (turns_numbered count) ≡ turns_of count

-- Numbered events are the events.
abbrev pub EventsAreNumbered : Type 0
EventsAreNumbered = (turn : ℕ) (events : List Event) → events_in (numbered turn events) ≡ events

-- The steps of some turns, and those of the next one behind them, are those of one turn more.
abbrev pub TurnsGoOn : Type 0
TurnsGoOn =
    (start : Chip) (count : ℕ)
    → steps_seen start (turns_numbered count)
    ++ steps_seen (ran start (turns_of count)) (numbered count (turn_of (side_of_turn count)))
    ≡ steps_seen start (turns_numbered (count + 1))
