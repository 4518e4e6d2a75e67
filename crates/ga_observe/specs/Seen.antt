-- The steps of a run, and what an observer has seen.
use Rattle.std.specs.Prelude.{ℕ, List, [], ◌∷◌, ◌++◌, map, Option, Some, None, unwrap_or}
use Rattle.std.specs.List.{flat_map, range_with_len}
use Rattle.ga_place.specs.Side.{sides_with}
use Rattle.ga_place.specs.declared.side.Sides.{Sides}
use Rattle.ga_node.specs.State.{State}
use Rattle.ga_node.specs.Need.{need_of}
use Rattle.ga_node.specs.declared.need.Need.{Need}
use Rattle.ga_node.specs.declared.need.Need.TheVariants as need
use Rattle.ga_chip.specs.Part.{Asks, Nothing, Own, Feed, Post, Take, Check}
use Rattle.ga_chip.specs.Chip.{Chip, state_of}
use Rattle.ga_chip.specs.Run.{Event, Move, happened, move_in, side_of_turn, turn_of}
use Rattle.ga_observe.specs.declared.step.Deed.{Deed}
use Rattle.ga_observe.specs.declared.step.Deed.TheVariants as did
use Rattle.ga_observe.specs.declared.step.Step.{Step}

-- the sides at which a node reads, if it needs a word from a port
abbrev pub sides_read : Need → Sides
sides_read (need.Take sides) = sides
sides_read _ = sides_with 0

-- What a node did by a move: by its need, what the try asked for and the word that it found. (No
-- move asks for nothing, and none takes a word where none was found.)
abbrev pub deed_of : Need → Asks → Option ℕ → Deed
deed_of needs Own found = did.Own
deed_of needs (Feed word) found = did.TookInput word
deed_of needs (Post side cell word) found = did.Posted side word
deed_of needs (Take side cell) found = did.Took side (sides_read needs) (unwrap_or found 0)
deed_of needs (Check side cell) found = did.SawRead side
deed_of needs (Nothing outcome) found = did.Own

-- the step that a move is: by the number of its turn, and the state of its node before it
abbrev pub step_of : ℕ → State → Move → Step
step_of turn state move = record {
  node = move.node;
  number = state.steps;
  turn = turn;
  place = state.place;
  p = state.p;
  word = state.word;
  deed = deed_of (need_of state) move.asked move.found;
}

abbrev pub steps_by : ℕ → Option State → Move → List Step
steps_by turn (Some state) move = step_of turn state move ∷ []
steps_by turn None move = []

-- The step that an event is, if it is one: a try that is Moved.
unfoldable pub steps_in : ℕ → Chip → Event → List Step
steps_in turn chip event =
    flat_map (λ move. steps_by turn (state_of chip move.node) move) (move_in chip event)

-- The steps of a run in order, by its events, each with the number of its turn.
abbrev pub steps_seen : Chip → List (ℕ × Event) → List Step
steps_seen chip [] = []
steps_seen chip (next ∷ events) =
    steps_in next.0 chip next.1 ++ steps_seen (happened chip next.1) events

-- events that all have one number
abbrev pub numbered : ℕ → List Event → List (ℕ × Event)
numbered turn events = map (λ (event : Event). (turn, event)) events

-- the events of n turns, each with the number of its turn
unfoldable pub turns_numbered : ℕ → List (ℕ × Event)
turns_numbered count =
    flat_map (λ turn. numbered turn (turn_of (side_of_turn turn))) (range_with_len 0 count)

-- What an observer has seen grows by more steps: if it began as some observer and had seen some
-- steps, it has then seen those and these, in order.
abbrev pub Sees : {A : Type 0} → (A → A → List Step → Type 0) → A → A → List Step → Type 0
Sees {A = A} has_seen old new more =
    (begun : A) (steps : List Step) → has_seen begun old steps → has_seen begun new (steps ++ more)
