-- What a step adds to the takes and the race that code keeps.
use Rattle.std.specs.Prelude.{◌≡◌, ◌⊎◌, ℕ, ◌+◌, ◌<◌, Option, Some, None, get_or}
use Rattle.ga_place.specs.Side.{neighbour_of}
use Rattle.ga_place.specs.declared.side.Side.{Side}
use Rattle.ga_observe.specs.declared.step.Step.{Step}
use Rattle.ga_race.specs.Found.{IsPending, IsPosted, IsTake, LeavesAt}
use Rattle.ga_race.specs.Shown.{Kept}
use Rattle.ga_race.specs.Watch.{Watch}
use Rattle.ga_race.specs.declared.found.MultiportTake.{MultiportTake}
use Rattle.ga_race.specs.declared.found.Post.{Post}
use Rattle.ga_race.specs.declared.found.Race.{Race}

-- a take that is kept is this one, and leaves out the cell
abbrev pub LeavesBy : MultiportTake → MultiportTake → ℕ → Type 0
LeavesBy take one cell = (one ≡ take) × (side : Side) × LeavesAt one side cell

-- What a take adds: it is kept for cells that it leaves out; and a race of it, by a word that is
-- pending.
pub record TakeAdds (words : ℕ → Option ℕ) (old new : Kept) (take : MultiportTake) : Type 0 where
  pub left : (cell : ℕ) (one : MultiportTake) → get_or new.left cell None ≡ Some one
      → (get_or old.left cell None ≡ Some one) ⊎ LeavesBy take one cell
  pub race : (race : Race) → new.race ≡ Some race
      → (old.race ≡ Some race) ⊎ ((race.take ≡ take) × IsPending words race)

-- a race of a take that was kept, by a word that a step posts
pub record PostedBy (w : Watch) (old : Kept) (step : Step) (race : Race) : Type 0 where
  pub cell : ℕ
  pub left : get_or old.left cell None ≡ Some race.take
  pub posted : IsPosted w step race cell

-- What a step adds.
pub record Adds (w : Watch) (old new : Kept) (step : Step) : Type 0 where
  pub left : (cell : ℕ) (one : MultiportTake) → get_or new.left cell None ≡ Some one
      → (get_or old.left cell None ≡ Some one)
      ⊎ (IsTake step one × ((side : Side) × LeavesAt one side cell))
  pub race : (race : Race) → new.race ≡ Some race
      → (old.race ≡ Some race) ⊎ ((IsTake step race.take × IsPending w.words race)
      ⊎ PostedBy w old step race)

-- a race of a take that was kept for a cell, by a word that this node posts there at this side, at
-- the end of its clock
pub record EarlyBy (w : Watch) (old : Kept) (node : ℕ) (at : Side) (cell posted : ℕ) (when : Post)
    (race : Race) : Type 0 where
  pub left : get_or old.left cell None ≡ Some race.take
  pub side : race.left_out.side ≡ at
  pub word : race.left_out.word ≡ posted
  pub writer : race.left_out.writer ≡ node
  pub post : race.left_out.post ≡ Some when
  pub reader : ℕ
  pub next : neighbour_of node at ≡ Some reader
  pub early : w.clocks.nodes node reader < race.take.number + 1
