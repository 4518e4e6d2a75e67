-- A fault of what is loaded is one of the text.
use Rattle.std.proofs.Common.{◌≡◌, inr, ℕ, List, Result, Ok, Err, subst, sym}
use Rattle.std.specs.Result.{IsErrAnd}
use Rattle.ga_asm.specs.Text.{HasImages}
use Rattle.ga_debug.specs.declared.beginning.Loaded.{Loaded}
use Rattle.ga_debug.specs.declared.profile.Profile.TheVariants.{Two}
use Rattle.ga_debug.specs.declared.replay_error.ReplayError.{ReplayError}
use Rattle.ga_debug.specs.declared.replay_error.ReplayError.TheVariants.{Memory}
use Rattle.ga_debug.specs.Beginning.{IsChipOf, IsLoaded, chip_of, start_view}
use Rattle.ga_debug.specs.Head.{Head, head_in}
use Rattle.ga_debug.specs.ReplayError.{Answers, FailsRightly}
use Rattle.ga_debug.specs.inner.ReplayError.{Gives}
use Rattle.ga_chip.specs.Chip.{Chip}
use Rattle.ga_path.specs.Stream.{Images}

-- the fault of a route, or of a boot along it
route_fails : (text : List ℕ) (head : Head) (images : Images) (fault : ReplayError)
    → head_in Two text ≡ Ok head → HasImages head.source images
    → FailsRightly (λ right. chip_of head.loading images ≡ right) fault
    → FailsRightly (IsLoaded text) fault
route_fails text head images Memory is has made = tt
route_fails text head images fault is has made = inr (head, is, inr (images, has, made))

pub fails_to_load : (text : List ℕ) (head : Head) (images : Images)
    (result : Result Loaded ReplayError) (fault : ReplayError) → head_in Two text ≡ Ok head
    → HasImages head.source images
    → FailsRightly (λ right. chip_of head.loading images ≡ right) fault
    → IsErrAnd result (λ error. error ≡ fault) → Answers start_view (IsLoaded text) result
fails_to_load text head images (Ok loaded) fault is has made same = absurd same
fails_to_load text head images (Err error) fault is has made same =
    subst (FailsRightly (IsLoaded text)) (sym same) (route_fails text head images fault is has made)

chip_fails : (head : Head) (images : Images) (fault : ReplayError) → HasImages head.source images
    → FailsRightly (λ right. chip_of head.loading images ≡ right) fault
    → FailsRightly (IsChipOf head) fault
chip_fails head images Memory has made = tt
chip_fails head images fault has made = inr (images, has, made)

-- the chip of the images of a head's source, or the fault of its routes, is that of the head
pub chip_answers : (head : Head) (images : Images) (result : Result Chip ReplayError)
    → HasImages head.source images → Gives (λ chip. chip) result (chip_of head.loading images)
    → Answers (λ chip. chip) (IsChipOf head) result
chip_answers head images (Ok chip) has made = (images, has, made)
chip_answers head images (Err fault) has made = chip_fails head images fault has made
