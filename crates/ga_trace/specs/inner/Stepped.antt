-- What one more step adds to a text.
use Rattle.std.specs.Prelude.{◌≡◌, ℕ, Bool, true, false, List, ◌++◌, None, Some}
use Rattle.ga_asm.specs.Image.{ImageView}
use Rattle.ga_chip.specs.Chip.{Chip, state_of}
use Rattle.ga_observe.specs.declared.step.Step.{Step}
use Rattle.ga_trace.specs.Stepped.{line_between, one_step, rest_line}

-- a step and its line, or why there is none
abbrev pub Tells : List (ℕ × ImageView) → ℕ → Chip → Chip → List ℕ → List ℕ → Bool → Type 0
Tells images name old new text longer true =
    (step : Step) × (one_step name old ≡ (Some step, new))
    × (longer ≡ text ++ line_between images step (state_of old name) (state_of new name))
Tells images name old new text longer false =
    (one_step name old ≡ (None, new)) × (longer ≡ text ++ rest_line name new)
