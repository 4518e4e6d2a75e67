-- How many steps each node made.
use Rattle.std.specs.Prelude.{◌≡◌, ℕ, ◌==◌, ◌<◌, ◌-◌, ◌^◌, List, get_or, length, min}
use Rattle.std.specs.List.{filter}
use Rattle.ga_place.specs.Cell.{name_at}
use Rattle.ga_observe.specs.declared.step.Step.{Step}

-- how many of some steps a node made
abbrev pub count_of : ℕ → List Step → ℕ
count_of name steps = length (filter (λ (step : Step). step.node == name) steps)

-- The counts are those of these steps, one for each node in order of name. A count stays at the
-- largest number of 64 bits.
pub record Counts (counts : List ℕ) (steps : List Step) : Type 0 where
  pub nodes : length counts ≡ 144
  pub counted : (index : ℕ) → index < 144
      → get_or counts index 0 ≡ min (count_of (name_at index) steps) (2 ^ 64 - 1)
