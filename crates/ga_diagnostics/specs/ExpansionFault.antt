-- The first fault of an input that may be of the larger language.
use Rattle.std.specs.Prelude.{◌≡◌, ◌⊎◌, ℕ, List, Ok, Err, string_bytes}
use Rattle.ga_asm.specs.Text.{IsTextFault}
use Rattle.ga_asm.specs.declared.text.TextError.{TextError}
use Rattle.ga_expand.specs.declared.expansion.Expansion.{Expansion}
use Rattle.ga_faults.specs.Origin.{at_origin}
use Rattle.ga_input.specs.declared.fault.ServeError.{ServeError}
use Rattle.ga_input.specs.Larger.{IsExpandedInput}
use Rattle.ga_input.specs.TextFault.{shown_fault}

-- The first fault of the expansion of an input. Or that of the text that it made, at the place
-- where its token was written.
abbrev pub IsExpansionFault : List ℕ → ServeError → Type 0
IsExpansionFault input fault =
    IsExpandedInput input (Err fault)
    ⊎ ((made : Expansion) × IsExpandedInput input (Ok made)
    × ((error : TextError) × IsTextFault (string_bytes made.text) error
    × (shown_fault input (at_origin input made error) ≡ fault)))
