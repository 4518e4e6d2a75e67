-- Words that nodes take, with the turns in which others posted them.
use Rattle.std.specs.Prelude.{ℕ, ◌==◌, Bool, false, List, [], ◌∷◌, ◌++◌, Option, Some, None, nat_lt, option_map, reverse, if◌then◌else◌}
use Rattle.std.specs.Option.{option_and_then, option_map_or, option_to_list}
use Rattle.ga_place.specs.Cell.{cell_of}
use Rattle.ga_place.specs.Side.{neighbour_of}
use Rattle.ga_chip.specs.Chip.{Chip}
use Rattle.ga_observe.specs.Seen.{steps_seen, turns_numbered}
use Rattle.ga_observe.specs.declared.step.Deed.{Deed}
use Rattle.ga_observe.specs.declared.step.Deed.TheVariants.{Posted, Took}
use Rattle.ga_observe.specs.declared.step.Step.{Step}
use Rattle.ga_profile.specs.declared.window.Window.{Window}
use Rattle.ga_report.specs.declared.transfers.Transfer.{Transfer}

-- the cell into which a node posts a word
abbrev pub cell_posted : ℕ → Deed → Option ℕ
cell_posted name (Posted side word) = cell_of name side
cell_posted name deed = None

-- the turn of the last post into a cell, by the steps of a run, the last one first
abbrev pub posts_into : ℕ → Step → Bool
posts_into cell step =
    option_map_or (λ other. other == cell) (cell_posted step.node step.deed) false

abbrev pub last_post : List Step → ℕ → Option ℕ
last_post [] cell = None
last_post (step ∷ earlier) cell =
    if posts_into cell step then Some step.turn else last_post earlier cell

-- A node takes a word that another one posted in a turn.
abbrev pub transfer_from : Step → ℕ → ℕ → ℕ → Transfer
transfer_from step word poster posted = record {
  poster = poster;
  posted = posted;
  reader = step.node;
  taken = step.turn;
  word = word;
}

-- The transfer that a step completes, by the turn of the last post into each cell: if it takes a
-- word at a side, the neighbour there posted it.
abbrev pub taken_by : (ℕ → Option ℕ) → Step → Deed → Option Transfer
taken_by last_posts step (Took side sides word) =
    option_and_then (λ (poster : ℕ). option_and_then (λ (cell : ℕ).
    option_map (transfer_from step word poster) (last_posts cell)) (cell_of poster side))
    (neighbour_of step.node side)
taken_by last_posts step deed = None

-- if the step is in a turn from one on
abbrev pub transfer_by : ℕ → (ℕ → Option ℕ) → Step → Option Transfer
transfer_by from last_posts step =
    if nat_lt step.turn from then None else taken_by last_posts step step.deed

-- The transfers from a turn on, in order of the takes, by the steps of a run, the last one first.
abbrev pub transfers_since : ℕ → List Step → List Transfer
transfers_since from [] = []
transfers_since from (step ∷ earlier) =
    transfers_since from earlier
    ++ option_to_list (transfer_by from (last_post earlier) step)

-- The transfers whose takes are in a window of the run of a chip.
abbrev pub transfers_in : Window → Chip → List Transfer
transfers_in window chip =
    transfers_since window.first (reverse (steps_seen chip (turns_numbered window.end)))
