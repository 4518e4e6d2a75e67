-- When a state comes again.
use Rattle.std.specs.Prelude.{◌≡◌, ℕ, ◌+◌, ◌≤◌, ◌<◌}
use Rattle.ga_node.specs.State.{State}
use Rattle.ga_node.specs.Running.{own_run}
use Rattle.ga_node.specs.Spins.{uncounted}

-- the state behind a number of own steps comes again a period later
abbrev pub Repeats : State → ℕ → ℕ → Type 0
Repeats state period steps =
    uncounted (own_run (steps + period) state) ≡ uncounted (own_run steps state)

-- the first number of own steps, at most `most`, behind which the state comes again
pub record FirstAgain (state : State) (period most first : ℕ) : Type 0 where
  pub few : first ≤ most
  pub before : (steps : ℕ) → steps < first → Repeats state period steps → ⊥
  pub here : first < most → Repeats state period first
