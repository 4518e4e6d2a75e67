-- What is right of an answer may be said in other words.
use Rattle.std.proofs.Common.{ℕ, List, Result, Ok, Err, inr}
use Rattle.ga_input.specs.declared.fault.ServeError.{ServeError}
use Rattle.ga_input.specs.declared.fault.ServeError.TheVariants.{Read, Write, Memory}
use Rattle.ga_path.specs.Stream.{Images}
use Rattle.ga_input.specs.Fault.{Answers, FailsRightly}
use Rattle.ga_input.specs.Source.{IsImagesIn, IsOfImages}

fails : {A B : Type 0} (IsRight : Result A ServeError → Type 0)
    (IsAlso : Result B ServeError → Type 0) (fault : ServeError)
    → ((error : ServeError) → IsRight (Err error) → IsAlso (Err error)) → FailsRightly IsRight fault
    → FailsRightly IsAlso fault
fails IsRight IsAlso Read also is = absurd is
fails IsRight IsAlso Write also is = absurd is
fails IsRight IsAlso Memory also is = tt
fails IsRight IsAlso fault also is = also fault is

pub answers : {A B : Type 0} (view : A → B) (IsRight : Result B ServeError → Type 0)
    (IsAlso : Result B ServeError → Type 0) (result : Result A ServeError)
    → ((answer : Result B ServeError) → IsRight answer → IsAlso answer)
    → Answers view IsRight result → Answers view IsAlso result
answers view IsRight IsAlso (Ok value) also is = also (Ok (view value)) is
answers view IsRight IsAlso (Err fault) also is =
    fails IsRight IsAlso fault (λ error. also (Err error)) is

-- the result of an input is that of its images
pub from_images : (Makes : Images → Result (List ℕ) ServeError → Type 0) (images : Images)
    (input : List ℕ) → IsImagesIn input (Ok images) → (answer : Result (List ℕ) ServeError)
    → Makes images answer → IsOfImages Makes input answer
from_images Makes images input made (Ok text) is = (images, made, is)
from_images Makes images input made (Err fault) is = inr (images, made, is)
