-- The details of a race that a watch found: those of the steps that it has seen.
use Rattle.std.specs.Prelude.{◌≡◌, ◌⊎◌, ℕ, ◌+◌, ◌<◌, true, List, [], ◌∷◌, ◌++◌, Option, Some}
use Rattle.ga_place.specs.Cell.{cell_of, read_cell}
use Rattle.ga_place.specs.Side.{neighbour_of}
use Rattle.ga_place.specs.declared.side.Side.{Side}
use Rattle.ga_observe.specs.declared.step.Deed.TheVariants as did
use Rattle.ga_observe.specs.declared.step.Step.{Step}
use Rattle.ga_race.specs.Watch.{Watch, clock_after, first_watch, leaves_side, watch_on}
use Rattle.ga_race.specs.declared.found.MultiportTake.{MultiportTake}
use Rattle.ga_race.specs.declared.found.Post.{Post}
use Rattle.ga_race.specs.declared.found.Race.{Race}

-- A take is this step, with its sides and its word; the neighbour at its side has written the word.
pub record IsTake (step : Step) (take : MultiportTake) : Type 0 where
  pub reader : step.node ≡ take.reader
  pub number : step.number ≡ take.number
  pub turn : step.turn ≡ take.turn
  pub place : step.place ≡ take.place
  pub p : step.p ≡ take.p
  pub deed : step.deed ≡ did.Took take.taken.side take.sides take.taken.word
  pub writer : (name : ℕ) → neighbour_of take.reader take.taken.side ≡ Some name
      → take.taken.writer ≡ name

-- It leaves out another of its sides, at which it would read this cell.
pub record LeavesAt (take : MultiportTake) (side : Side) (cell : ℕ) : Type 0 where
  pub leaves : leaves_side (did.Took take.taken.side take.sides take.taken.word) side ≡ true
  pub reads : read_cell take.reader side ≡ Some cell

-- The word at the side that a race's take leaves out is pending before the take.
pub record IsPending (words : ℕ → Option ℕ) (race : Race) : Type 0 where
  pub cell : ℕ
  pub at : LeavesAt race.take race.left_out.side cell
  pub word : words cell ≡ Some race.left_out.word
  pub writer : (name : ℕ) → neighbour_of race.take.reader race.left_out.side ≡ Some name
      → race.left_out.writer ≡ name

-- It is posted into this cell by a step that doesn't come after the take by causes.
pub record IsPosted (w : Watch) (post : Step) (race : Race) (cell : ℕ) : Type 0 where
  pub deed : post.deed ≡ did.Posted race.left_out.side race.left_out.word
  pub writer : post.node ≡ race.left_out.writer
  pub writes : cell_of post.node race.left_out.side ≡ Some cell
  pub reader : ℕ
  pub next : neighbour_of post.node race.left_out.side ≡ Some reader
  pub early : clock_after post w.clocks reader < race.take.number + 1
  -- its turn is shown
  pub shown : Post
  pub when : race.left_out.post ≡ Some shown
  pub turn : shown.turn ≡ post.turn

-- The same, among later steps.
pub record IsPostedIn (w : Watch) (later : List Step) (race : Race) : Type 0 where
  pub mid : List Step
  pub post : Step
  pub rest : List Step
  pub cut : later ≡ mid ++ post ∷ rest
  pub side : Side
  pub cell : ℕ
  pub at : LeavesAt race.take side cell
  pub posted : IsPosted (watch_on w mid) post race cell

-- A race is one of these steps: its take is one of them, and the word that the take leaves out is
-- pending before it, or posted by a later one. `start` has the words pending before the first step.
pub record IsAmong (start : List (Option ℕ)) (steps : List Step) (race : Race) : Type 0 where
  pub before : List Step
  pub step : Step
  pub later : List Step
  pub cut : steps ≡ before ++ step ∷ later
  pub take : IsTake step race.take
  pub comes : IsPending (watch_on (first_watch start) before).words race
      ⊎ IsPostedIn (watch_on (first_watch start) (before ++ step ∷ [])) later race

-- A take that left out a cell is one of these steps.
pub record LeftAmong (steps : List Step) (take : MultiportTake) (cell : ℕ) : Type 0 where
  pub before : List Step
  pub step : Step
  pub later : List Step
  pub cut : steps ≡ before ++ step ∷ later
  pub is : IsTake step take
  pub side : Side
  pub at : LeavesAt take side cell
