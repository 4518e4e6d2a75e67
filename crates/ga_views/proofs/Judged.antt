-- What a step of the job `race` answers is what the job answers.
use Rattle.std.proofs.Common.{◌≡◌, ℕ, Bool, List, Option, Result, Ok, Err, inl, inr, refl, subst}
use Rattle.std.specs.Result.{IsErrAnd}
use Rattle.ga_chip.specs.Chip.{Chip}
use Rattle.ga_input.specs.Fault.{Answers, FailsRightly}
use Rattle.ga_views.specs.Race.{IsJudgedBy, IsRaceOutput, most_turns}
use Rattle.ga_input.specs.Loading.{IsChipIn}
use Rattle.ga_input.specs.Text.{text_in}
use Rattle.ga_input.specs.declared.fault.ServeError.{ServeError}
use Rattle.ga_input.specs.declared.fault.ServeError.TheVariants.{Read, Write, Memory}
use Rattle.ga_input.specs.declared.loading.Loading.{Loading}

-- an error of which all is known fails rightly
pub erred : {A : Type 0} (view : A → List ℕ) (P : Result (List ℕ) ServeError → Type 0)
    (answer : Result A ServeError) (Q : ServeError → Type 0) → IsErrAnd answer Q
    → ((fault : ServeError) → Q fault → FailsRightly P fault) → Answers view P answer
erred view P (Ok value) Q is fails = absurd is
erred view P (Err fault) Q is fails = fails fault is

-- what fails rightly by one statement does so by a weaker one
fails_by : {B C : Type 0} (P : Result B ServeError → Type 0) (Q : Result C ServeError → Type 0)
    (fault : ServeError) → (P (Err fault) → Q (Err fault)) → FailsRightly P fault
    → FailsRightly Q fault
fails_by P Q Memory go h = tt
fails_by P Q Read go h = h
fails_by P Q Write go h = h
fails_by P Q fault go h = go h

-- so does a fault of the chip
pub not_loaded : (loading : Loading) (turns : Option ℕ) (witness : Bool) (input text : List ℕ)
    (fault : ServeError) → text_in input ≡ Ok text → FailsRightly (IsChipIn loading text) fault
    → FailsRightly (IsRaceOutput loading turns witness input) fault
not_loaded loading turns witness input text fault is h =
    fails_by (IsChipIn loading text) (IsRaceOutput loading turns witness input) fault
    (λ bad. inl (text, is, inr (fault, refl, bad))) h

-- an answer for the chip is one of the job
pub judged : {A : Type 0} (view : A → List ℕ) (loading : Loading) (turns : Option ℕ) (most : ℕ)
    (witness : Bool) (input text : List ℕ) (chip : Chip) (answer : Result A ServeError)
    → most ≡ most_turns turns → text_in input ≡ Ok text → IsChipIn loading text (Ok chip)
    → Answers view (IsJudgedBy chip most loading witness text) answer
    → Answers view (IsRaceOutput loading turns witness input) answer
judged view loading turns most witness input text chip answer all is there shown =
    by answer (subst (λ (n : ℕ). Answers view (IsJudgedBy chip n loading witness text) answer) all
    shown)
  where
    by : (answer : Result _ ServeError)
        → Answers view (IsJudgedBy chip (most_turns turns) loading witness text) answer
        → Answers view (IsRaceOutput loading turns witness input) answer
    by (Ok value) shown = inl (text, is, inl (chip, there, shown))
    by (Err fault) shown =
        fails_by (IsJudgedBy chip (most_turns turns) loading witness text)
        (IsRaceOutput loading turns witness input) fault
        (λ h. inl (text, is, inl (chip, there, h))) shown
