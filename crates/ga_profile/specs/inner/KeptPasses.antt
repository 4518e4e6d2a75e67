-- What an observer keeps of the passes of a run.
use Rattle.std.specs.Prelude.{◌≡◌, ℕ, ◌<◌, List, get_or}
use Rattle.ga_observe.specs.declared.step.Step.{Step}
use Rattle.ga_profile.specs.declared.passes.Passes.{Passes}
use Rattle.ga_profile.specs.Passes.{NO_PASSES, passes_in}

-- These are the passes through all places in the turns from a turn on.
pub record KeptPasses (from : ℕ) (places : List Passes) (steps : List Step) : Type 0 where
  pub each : (place : ℕ) → place < 36864
      → get_or places place NO_PASSES ≡ passes_in from place steps
