-- What is right of the whole text is right of the file, seen through the way back.
use Rattle.std.proofs.Common.{◌≡◌, ◌<◌, ℕ, List, Some, Result, Ok, ap, inl, inr, length, option_map, refl, subst, sym}
use Rattle.ga_input.specs.declared.fault.ServeError.{ServeError}
use Rattle.ga_input.specs.declared.fault.ServeError.TheVariants.{Memory, Output, Read, Shown, Write}
use Rattle.ga_input.specs.declared.fault.OutputFault.TheVariants.{TooLong}
use Rattle.ga_input.specs.Fault.{FailsRightly}
use Rattle.ga_replays.specs.Sourced.{IsInFile, IsReplacementInFile, SourcedView, fault_in_file, recording_in_file}
use Rattle.ga_replays.specs.Transcript.{IsReplacement}

pub fails_in_file : {A B : Type 0} (sourced : SourcedView) (back : A → B)
    (IsRight : Result A ServeError → Type 0) (fault : ServeError) → FailsRightly IsRight fault
    → FailsRightly (IsInFile sourced back IsRight) (fault_in_file sourced.count fault)
fails_in_file sourced back IsRight Read is = absurd is
fails_in_file sourced back IsRight Write is = absurd is
fails_in_file sourced back IsRight Memory is = tt
fails_in_file sourced back IsRight (Shown fault shown) is = (Shown fault shown, is, refl)
fails_in_file sourced back IsRight fault is = (fault, is, refl)

-- a recording that replaces the whole text gives one that replaces the file, or is too long there
pub replaces_file : (sourced : SourcedView) (input recording text : List ℕ)
    → input ≡ sourced.whole → IsReplacement input (Ok (Some recording))
    → text ≡ recording_in_file sourced recording
    → IsInFile sourced (option_map (recording_in_file sourced)) (IsReplacement sourced.whole)
    (Ok (Some text))
replaces_file sourced input recording text whole is same = (
  Some recording,
  subst (λ t. IsReplacement t (Ok (Some recording))) whole is,
  ap (λ t. Some t) (sym same),
)

pub too_long_in_file : (sourced : SourcedView) (input recording : List ℕ) → input ≡ sourced.whole
    → IsReplacement input (Ok (Some recording))
    → 1048576 < length (recording_in_file sourced recording)
    → FailsRightly (IsReplacementInFile sourced) (Output TooLong)
too_long_in_file sourced input recording whole is long =
    inr (recording, subst (λ t. IsReplacement t (Ok (Some recording))) whole is, refl, long)

-- a fault of the whole text's replacement is one of the file's
pub fault_of_replacement : (sourced : SourcedView) (fault : ServeError)
    → FailsRightly (IsInFile sourced (option_map (recording_in_file sourced))
    (IsReplacement sourced.whole)) fault
    → FailsRightly (IsReplacementInFile sourced) fault
fault_of_replacement sourced Read is = absurd is
fault_of_replacement sourced Write is = absurd is
fault_of_replacement sourced Memory is = tt
fault_of_replacement sourced (Shown fault shown) is = inl is
fault_of_replacement sourced fault is = inl is

-- a fault of an input that is the whole text, as it is seen in the file
pub seen_in_file : {A B : Type 0} (sourced : SourcedView) (back : A → B)
    (IsRight : List ℕ → Result A ServeError → Type 0) (input : List ℕ) (fault seen : ServeError)
    → input ≡ sourced.whole → seen ≡ fault_in_file sourced.count fault
    → FailsRightly (IsRight input) fault
    → FailsRightly (IsInFile sourced back (IsRight sourced.whole)) seen
seen_in_file sourced back IsRight input fault seen whole same is =
    subst (FailsRightly (IsInFile sourced back (IsRight sourced.whole))) (sym same)
    (fails_in_file sourced back (IsRight sourced.whole) fault
    (subst (λ t. FailsRightly (IsRight t) fault) whole is))
