-- The fault of a text that can't be listed is one of the input.
use Rattle.std.proofs.Common.{◌≡◌, inr, ℕ, Bool, List, Ok, Err, refl, subst, sym}
use Rattle.std.specs.Prelude.{◌≢◌}
use Rattle.ga_asm.specs.declared.text.TextError.{TextError}
use Rattle.ga_asm.specs.declared.text.TextError.TheVariants.{Source, Asm, Memory}
use Rattle.ga_input.specs.declared.fault.ServeError.{ServeError}
use Rattle.ga_input.specs.Fault.{FailsRightly}
use Rattle.ga_programs.specs.Listing.{IsListOutput, IsListed}
use Rattle.ga_input.specs.Text.{text_in}
use Rattle.ga_input.specs.TextFault.{shown_fault}

pub fails_listed : (labels : Bool) (input text : List ℕ) (error : TextError) (fault : ServeError)
    → text_in input ≡ Ok text → (error ≢ Memory → IsListed labels text (Err error))
    → fault ≡ shown_fault text error → FailsRightly (IsListOutput labels input) fault
fails_listed labels input text error fault made is shown =
    subst (FailsRightly (IsListOutput labels input)) (sym shown) (by error is)
  where
    by : (error : TextError) → (error ≢ Memory → IsListed labels text (Err error))
        → FailsRightly (IsListOutput labels input) (shown_fault text error)
    by (Source error) is = inr (text, Source error, made, is (λ no. absurd cc), refl)
    by (Asm error) is = inr (text, Asm error, made, is (λ no. absurd cc), refl)
    by Memory is = tt
