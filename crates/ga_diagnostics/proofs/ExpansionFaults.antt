-- The fault of an expansion is one of the text that it was made of.
use Rattle.std.proofs.Common.{◌≢◌, inr, ℕ, List, Ok, refl, string_bytes}
use Rattle.std.specs.Prelude.{Result, Err}
use Rattle.ga_asm.specs.Text.{IsTextFault}
use Rattle.ga_asm.specs.declared.text.TextError.{TextError}
use Rattle.ga_asm.specs.declared.text.TextError.TheVariants as text
use Rattle.ga_expand.specs.declared.expansion.Expansion.{Expansion}
use Rattle.ga_faults.specs.Origin.{at_origin}
use Rattle.ga_input.specs.declared.fault.ServeError.{ServeError}
use Rattle.ga_input.specs.Fault.{FailsRightly}
use Rattle.ga_input.specs.Larger.{IsExpandedInput}
use Rattle.ga_diagnostics.specs.ExpansionFault.{IsExpansionFault}
use Rattle.ga_input.specs.TextFault.{shown_fault}

module _ {B : Type 0} (IsRight : Result B ServeError → Type 0) (input : List ℕ) (made : Expansion)
    (right : (fault : ServeError) → IsExpansionFault input fault → IsRight (Err fault))
    (expanded : IsExpandedInput input (Ok made)) where
  pub expansion_fails : (error : TextError)
      → (error ≢ text.Memory → IsTextFault (string_bytes made.text) error)
      → FailsRightly IsRight (shown_fault input (at_origin input made error))
  unfolding at_origin
  expansion_fails text.Memory is = tt
  expansion_fails (text.Source error) is =
      right _ (inr (made, expanded, (text.Source error, is (λ same. absurd cc), refl)))
  expansion_fails (text.Asm error) is =
      right _ (inr (made, expanded, (text.Asm error, is (λ same. absurd cc), refl)))
