-- The text of a report, piece by piece.
use Rattle.std.proofs.Common.{◌≡◌, ◌∙◌, ℕ, Bool, true, false, Global, List, ◌++◌, Result, Ok, Err, String, append_assoc, refl, string_bytes}
use Rattle.std.proofs.lemmas.Bool.{eqb-true}
use Rattle.std.specs.Fmt.{decimal}
use Rattle.std.specs.Prelude.{◌==◌, IfOk, codes}
use Rattle.ga_transcript.specs.Compare.{View}
use Rattle.ga_input.specs.declared.fault.ServeError.{ServeError}
use Rattle.ga_input.specs.declared.fault.ServeError.TheVariants.{Memory, Read, Write}
use Rattle.ga_input.specs.Fault.{FailsRightly}
use Rattle.ga_replays.specs.FileReport.{found_text}
use Rattle.ga_messages.specs.Shown.{shown_lines}

pub four_pieces : (a b c d : List ℕ) → a ++ (b ++ (c ++ d)) ≡ a ++ b ++ c ++ d
four_pieces a b c d = simp append_assoc

pub seven_pieces : (a b c d e f g : List ℕ)
    → a ++ (b ++ (c ++ (d ++ (e ++ (f ++ g))))) ≡ a ++ b ++ c ++ d ++ e ++ f ++ g
seven_pieces a b c d e f g = simp append_assoc

-- if none differs, or some do
pub same_text : (name : List ℕ) (found : View) → (found.differences == 0) ≡ true
    → found_text name found ≡ name ++ codes ": same " ++ decimal found.commands ++ codes "\n"
same_text name found e = rw (e) refl

pub other_text : (name : List ℕ) (found : View) → (found.differences == 0) ≡ false
    → found_text name found
    ≡ shown_lines found.report ++ name ++ codes ": " ++ decimal found.differences ++ codes " of "
    ++ decimal found.commands ++ codes " differ\n"
other_text name found e = rw (e) refl

-- what is known of a text is known in other words
pub if_text : {E : Type 0} (result : Result (String Global) E) (made text : List ℕ)
    → IfOk result (λ s. string_bytes s ≡ made) → made ≡ text
    → IfOk result (λ s. string_bytes s ≡ text)
if_text (Ok s) made text is same = is ∙ same
if_text (Err error) made text is same = tt

pub not_zero : (n : ℕ) → (n ≡ 0 → ⊥) → (n == 0) ≡ false
not_zero n other = by (n == 0) refl
  where
    by : (b : Bool) → (n == 0) ≡ b → (n == 0) ≡ false
    by true e = absurd (other (eqb-true n 0 e))
    by false e = e

-- a fault that isn't that memory ran out is one of the input
pub named_fault : {A : Type 0} (Is : Result A ServeError → Type 0) (fault : ServeError)
    → (fault ≡ Memory → ⊥) → FailsRightly Is fault → Is (Err fault)
named_fault Is Memory other is = absurd (other refl)
named_fault Is Read other is = absurd is
named_fault Is Write other is = absurd is
named_fault Is fault other is = is
