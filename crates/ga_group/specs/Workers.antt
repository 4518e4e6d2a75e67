-- Runs of workers: each worker tries the nodes of its group, in whatever order the workers come.
use Rattle.std.specs.Prelude.{◌≡◌, ℕ, true, false, List, [], map}
use Rattle.std.specs.List.{concat, flat_map, range_with_len}
use Rattle.ga_place.specs.Node.{is_among}
use Rattle.ga_place.specs.declared.side.Side.{Side}
use Rattle.ga_chip.specs.declared.outcome.Try.{Try}
use Rattle.ga_chip.specs.Chip.{Chip}
use Rattle.ga_chip.specs.Run.{ran, side_of_turn, sides_tried, tries_of}
use Rattle.ga_group.specs.Plan.{Groups}

-- the sides of n turns
abbrev pub sides_of_turns : ℕ → List Side
sides_of_turns turns = map side_of_turn (range_with_len 0 turns)

-- A run of workers by a plan over a number of turns leads from one chip to another: along tries in
-- which each node of the plan is tried once in each turn, with the side of that turn, and no other
-- node is tried. The order between nodes is free.
pub record IsWorkersRun (chip : Chip) (plan : Groups) (turns : ℕ) (next : Chip) : Type 0 where
  pub tries : List Try
  pub planned : (name : ℕ) → is_among name (concat plan) ≡ true
      → sides_tried name tries ≡ sides_of_turns turns
  pub others : (name : ℕ) → is_among name (concat plan) ≡ false → sides_tried name tries ≡ []
  pub leads : next ≡ ran chip (tries_of tries)

-- one try of each of some nodes in order, all with one side
abbrev pub round_of : List ℕ → Side → List Try
round_of nodes side = map (λ name. record { node = name; side = side }) nodes

-- n rounds, one after another, with the sides of the turns
abbrev pub rounds_of : List ℕ → ℕ → List Try
rounds_of nodes turns =
    flat_map (λ turn. round_of nodes (side_of_turn turn)) (range_with_len 0 turns)
