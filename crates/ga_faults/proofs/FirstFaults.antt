-- The first fault of a text, by what the code finds.
use Rattle.std.proofs.Common.{◌≡◌, ◌≢◌, ℕ, List, Option, refl, subst, sym, string_bytes}
use Rattle.ga_asm.specs.Text.{IsTextFault}
use Rattle.ga_asm.specs.declared.text.TextError.{TextError}
use Rattle.ga_asm.specs.declared.text.TextError.TheVariants as text_error
use Rattle.ga_expand.specs.Texts.{IsExpansion}
use Rattle.ga_expand.specs.declared.expansion.Expansion.{Expansion}
use Rattle.ga_faults.specs.Faults.{IsFirstFault}
use Rattle.ga_faults.specs.Origin.{at_origin}
use Rattle.ga_faults.specs.declared.fault.Fault.{Fault}
use Rattle.ga_faults.specs.inner.Faults.{IsFaultOf}

-- a fault of the text that a text expands to
pub written_fault : (text plain : List ℕ) (made : Expansion) (found written : TextError)
    (fault : Option Fault) → IsExpansion text made → plain ≡ string_bytes made.text
    → (found ≢ text_error.Memory → IsTextFault plain found) → written ≡ at_origin text made found
    → IsFaultOf written fault → IsFirstFault text fault
unfolding at_origin
written_fault text plain made (text_error.Source error) written fault is same has at of =
    let here : IsFaultOf (at_origin text made (text_error.Source error)) fault =
    subst (λ e. IsFaultOf e fault) at of in
    subst (IsFirstFault text) (sym here) (
      made,
      is,
      (
        text_error.Source error,
        subst (λ t. IsTextFault t (text_error.Source error)) same (has (λ e. cc)),
        refl,
      ),
    )
written_fault text plain made (text_error.Asm error) written fault is same has at of =
    let here : IsFaultOf (at_origin text made (text_error.Asm error)) fault =
    subst (λ e. IsFaultOf e fault) at of in
    subst (IsFirstFault text) (sym here) (
      made,
      is,
      (
        text_error.Asm error,
        subst (λ t. IsTextFault t (text_error.Asm error)) same (has (λ e. cc)),
        refl,
      ),
    )
written_fault text plain made text_error.Memory written fault is same has at of =
    absurd (subst (λ e. IsFaultOf e fault) at of)
