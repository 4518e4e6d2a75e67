-- How the input of a job is read.
use Rattle.std.specs.Prelude.{ℕ, List, Option, Some, None, Result}
use Rattle.ga_input.specs.declared.fault.ServeError.{ServeError}
use Rattle.ga_input.specs.Larger.{IsOfFile}

-- an answer to the bytes of a file, or of standard input, which is no text of the larger language
abbrev pub IsReadBy : {B : Type 0} → Option (List ℕ) → (List ℕ → Result B ServeError → Type 0)
    → List ℕ → Result B ServeError → Type 0
IsReadBy None Is input answer = Is input answer
IsReadBy (Some name) Is input answer = IsOfFile Is input answer
