-- An answer to a text, or to what it expands to, is an answer to a file.
use Rattle.std.proofs.Common.{◌≡◌, Bool, true, false, inl, inr, ℕ, List, Some, None, Result, Ok, Err, refl, string_bytes, subst, sym}
use Rattle.std.specs.Prelude.{◌&&◌, if◌then◌else◌}
use Rattle.ga_asm.specs.declared.text.TextError.{TextError}
use Rattle.ga_expand.specs.declared.expansion.Expansion.{Expansion}
use Rattle.ga_faults.specs.Origin.{at_origin}
use Rattle.ga_input.specs.declared.fault.ServeError.{ServeError}
use Rattle.ga_input.specs.declared.fault.ServeError.TheVariants.{Asm, Memory, Read, Shown, Source, Write}
use Rattle.ga_input.specs.declared.fault.TextFault.TheVariants as shown
use Rattle.ga_input.specs.Fault.{Answers, FailsRightly}
use Rattle.ga_input.specs.Larger.{IsExpandedInput, IsOfFile, IsOfLarger, IsRefused, as_written, is_session, is_shown, plain_fault, source_fault}

module _ {B : Type 0} (Is : List ℕ → Result B ServeError → Type 0) (input : List ℕ) where
  -- ---- plain text

  pub plain_text : (found : B) → Is input (Ok found) → IsOfFile Is input (Ok found)
  unfolding IsOfFile
  plain_text found is = inl is

  pub plain_fails : (fault : ServeError) → None ≡ plain_fault input fault
      → FailsRightly (Is input) fault → FailsRightly (IsOfFile Is input) fault
  unfolding IsOfFile
  plain_fails Memory none is = tt
  plain_fails Read none is = is
  plain_fails Write none is = is
  plain_fails fault none is = inl (is, sym none)

  fault_is : (is_other : Bool) (fault : ServeError) (error : TextError)
      → Some error ≡ (if is_other then None else source_fault fault)
      → FailsRightly (Is input) fault → Is input (Err fault)
  fault_is true fault error found is = absurd cc
  fault_is false Memory error found is = absurd cc
  fault_is false Read error found is = absurd is
  fault_is false Write error found is = absurd is
  fault_is false fault error found is = is

  pub refused : (fault : ServeError) (error : TextError) → Some error ≡ plain_fault input fault
      → FailsRightly (Is input) fault → IsRefused Is input
  refused fault error found is = (
    fault,
    fault_is (is_session input && is_shown fault) fault error found is,
    (error, sym found),
  )

  -- ---- larger text

  larger_fails : IsRefused Is input → (fault : ServeError)
      → FailsRightly (IsOfLarger Is input) fault → FailsRightly (IsOfFile Is input) fault
  unfolding IsOfFile
  larger_fails plain Memory is = tt
  larger_fails plain Read is = is
  larger_fails plain Write is = is
  larger_fails plain fault is = inr (plain, is)

  pub larger_text : {A : Type 0} (view : A → B) (result : Result A ServeError)
      → IsRefused Is input → Answers view (IsOfLarger Is input) result
      → Answers view (IsOfFile Is input) result
  unfolding IsOfFile
  larger_text view (Ok found) plain is = inr (plain, is)
  larger_text view (Err fault) plain is = larger_fails plain fault is

  found_fails : (made : Expansion) → IsExpandedInput input (Ok made) → (fault : ServeError)
      → FailsRightly (Is (string_bytes made.text)) fault
      → FailsRightly (IsOfLarger Is input) (as_written input made fault)
  unfolding at_origin
  found_fails made expands Memory is = tt
  found_fails made expands Read is = is
  found_fails made expands Write is = is
  found_fails made expands (Source error) is =
      inr (made, expands, (Source error, is, refl))
  found_fails made expands (Asm error) is = inr (made, expands, (Asm error, is, refl))
  found_fails made expands (Shown (shown.Source error) lines) is =
      inr (made, expands, (Shown (shown.Source error) lines, is, refl))
  found_fails made expands (Shown (shown.Asm error) lines) is =
      inr (made, expands, (Shown (shown.Asm error) lines, is, refl))
  found_fails made expands (Shown fault lines) is =
      inr (made, expands, (Shown fault lines, is, refl))
  found_fails made expands fault is = inr (made, expands, (fault, is, refl))

  -- the same of bytes that are the expansion's, and of a text that is the input
  pub expansion_fails : (made : Expansion) → IsExpandedInput input (Ok made)
      → (bytes text : List ℕ) → bytes ≡ string_bytes made.text → text ≡ input
      → (fault written : ServeError) → FailsRightly (Is bytes) fault
      → written ≡ as_written text made fault → FailsRightly (IsOfLarger Is input) written
  expansion_fails made expands bytes text of_made of_input fault written is as_is =
      subst (FailsRightly (IsOfLarger Is input)) (sym as_is)
      (subst (λ text. FailsRightly (IsOfLarger Is input) (as_written text made fault))
      (sym of_input)
      (found_fails made expands fault (subst (λ bytes. FailsRightly (Is bytes) fault) of_made is)))

  pub expansion_answers : (made : Expansion) → IsExpandedInput input (Ok made) → (bytes : List ℕ)
      → bytes ≡ string_bytes made.text → (found : B) → Is bytes (Ok found)
      → IsOfLarger Is input (Ok found)
  expansion_answers made expands bytes of_made found is =
      (made, expands, subst (λ bytes. Is bytes (Ok found)) of_made is)
