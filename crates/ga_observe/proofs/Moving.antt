-- Each move is a step.
use Rattle.std.proofs.Common.{◌≡◌, ℕ, List, [], ◌∷◌, ◌++◌, Option, Some, None, map, option_map, refl, sym, ap, ap₂, ◌∙◌}
use Rattle.std.specs.List.{flat_map}
use Rattle.std.proofs.lemmas.List.{map-append}
use Rattle.ga_place.specs.declared.side.Side.{Side}
use Rattle.ga_chip.specs.declared.outcome.Outcome.{Outcome}
use Rattle.ga_chip.specs.declared.outcome.Outcome.TheVariants.{Moved, Waits, Held, Stopped}
use Rattle.ga_node.specs.Need.{need_of}
use Rattle.ga_chip.specs.Part.{Part, after, asks, picked_by}
use Rattle.ga_chip.specs.Chip.{Chip, found_by, part_of, state_of}
use Rattle.ga_chip.specs.Run.{ClearBreak, Event, Move, PassBreak, Piece, SetBreak, Try, happened, if_moved, move_at, move_in, moves}
use Rattle.ga_observe.specs.declared.step.Step.{Step}
use Rattle.ga_observe.specs.Laws.{StepsAreMoves, events_in}
use Rattle.ga_observe.specs.Seen.{steps_by, steps_in, steps_seen}

abbrev nodes : List Step → List ℕ
nodes steps = map (λ (step : Step). step.node) steps

abbrev movers : List Move → List ℕ
movers all = map (λ (move : Move). move.node) all

abbrev steps_of : ℕ → Chip → List Move → List Step
steps_of turn chip all =
    flat_map (λ (move : Move). steps_by turn (state_of chip move.node) move) all

-- a move of a node that is there
one_moves : (turn : ℕ) (chip : Chip) (part : Part) (outcome : Outcome) (move : Move)
    → part_of chip move.node ≡ Some part
    → nodes (steps_of turn chip (if_moved outcome move)) ≡ movers (if_moved outcome move)
one_moves turn chip part Moved move there =
    ap (λ (o : Option Part). nodes (steps_by turn (option_map (λ (p : Part). p.state) o) move
    ++ [])) there
one_moves turn chip part Waits move there = refl
one_moves turn chip part Held move there = refl
one_moves turn chip part Stopped move there = refl

try_moves : (turn : ℕ) (chip : Chip) (name : ℕ) (side : Side) (o : Option Part)
    → part_of chip name ≡ o
    → nodes (steps_of turn chip (move_at o chip name side)) ≡ movers (move_at o chip name side)
try_moves turn chip name side None there = refl
try_moves turn chip name side (Some part) there =
    one_moves turn chip part (after part side (found_by (asks part side) chip.cells)).0 (record {
      node = name;
      asked = asks part side;
      found = found_by (asks part side) chip.cells;
      picked = picked_by (need_of part.state) side;
    }) there

event_moves : (turn : ℕ) (chip : Chip) (event : Event)
    → nodes (steps_in turn chip event) ≡ movers (move_in chip event)
unfolding steps_in move_in
event_moves turn chip (Try name side) = try_moves turn chip name side (part_of chip name) refl
event_moves turn chip (SetBreak name at) = refl
event_moves turn chip (ClearBreak name at) = refl
event_moves turn chip (PassBreak name) = refl
event_moves turn chip (Piece name words) = refl

pub steps_are_moves : StepsAreMoves
steps_are_moves chip [] = refl
steps_are_moves chip (next ∷ events) =
    map-append (λ (step : Step). step.node) (steps_in next.0 chip next.1)
    (steps_seen (happened chip next.1) events)
    ∙ ap₂ (λ one more. one ++ more) (event_moves next.0 chip next.1)
    (steps_are_moves (happened chip next.1) events)
    ∙ sym (map-append (λ (move : Move). move.node) (move_in chip next.1)
    (moves (happened chip next.1) (events_in events)))
