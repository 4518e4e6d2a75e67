-- What code keeps of a watch: for each node and each cell a row of numbers.
use Rattle.std.specs.Prelude.{◌≡◌, ℕ, ◌+◌, ◌<◌, get_or, List, [], Option, Some, None, is_some}
use Rattle.std.specs.Option.{option_map_or}
use Rattle.ga_place.specs.Cell.{name_at}
use Rattle.ga_observe.specs.declared.step.Step.{Step}
use Rattle.ga_race.specs.Clocks.{Clock}
use Rattle.ga_race.specs.Found.{IsAmong, LeftAmong}
use Rattle.ga_race.specs.Watch.{AreCounted, Watch, first_watch, watch_on}
use Rattle.ga_race.specs.declared.found.MultiportTake.{MultiportTake}
use Rattle.ga_race.specs.declared.found.Race.{Race}

pub record Kept : Type 0 where
  -- the clocks of the nodes, by index in order of name, and those of the cells
  pub nodes : List (List ℕ)
  pub posts : List (List ℕ)
  pub takes : List (List ℕ)
  -- the word pending in each cell, and the last multiport take that left the cell out
  pub words : List (Option ℕ)
  pub left : List (Option MultiportTake)
  -- the first race that was found
  pub race : Option Race
  -- the words that were pending before the first step
  pub start : List (Option ℕ)

abbrev pub ShowsClock : List ℕ → Clock → Type 0
ShowsClock row clock = (index : ℕ) → index < 144 → get_or row index 0 ≡ clock (name_at index)

-- the count of a multiport take; 0 if there is none
abbrev pub take_count : Option MultiportTake → ℕ
take_count take = option_map_or (λ (one : MultiportTake). one.number + 1) take 0

-- What is kept is this watch.
pub record Shows (kept : Kept) (w : Watch) : Type 0 where
  pub nodes : (index : ℕ) → index < 144
      → ShowsClock (get_or kept.nodes index []) (w.clocks.nodes (name_at index))
  pub posts : (cell : ℕ) → cell < 524 → ShowsClock (get_or kept.posts cell []) (w.clocks.posts cell)
  pub takes : (cell : ℕ) → cell < 524 → ShowsClock (get_or kept.takes cell []) (w.clocks.takes cell)
  pub words : (cell : ℕ) → cell < 524 → get_or kept.words cell None ≡ w.words cell
  pub left_at : (cell : ℕ) → cell < 524 → take_count (get_or kept.left cell None) ≡ w.left_at cell
  pub race : is_some kept.race ≡ w.race

-- The details that are kept are those of these steps.
pub record Recalls (kept : Kept) (steps : List Step) : Type 0 where
  pub left : (cell : ℕ) (take : MultiportTake) → get_or kept.left cell None ≡ Some take
      → LeftAmong steps take cell
  pub race : (race : Race) → kept.race ≡ Some race → IsAmong kept.start steps race

-- What is kept is the watch after these steps, with their details.
pub record IsAfter (kept : Kept) (steps : List Step) : Type 0 where
  pub shows : Shows kept (watch_on (first_watch kept.start) steps)
  pub recalls : Recalls kept steps

-- It is so if the counts of the steps have at most 64 bits.
abbrev pub HasSeen : Kept → List Step → Type 0
HasSeen kept steps = AreCounted steps → IsAfter kept steps

-- The same of a watch that began as another one, over the same words.
pub record HasSeenFrom (begun kept : Kept) (steps : List Step) : Type 0 where
  pub start : kept.start ≡ begun.start
  pub seen : HasSeen kept steps
