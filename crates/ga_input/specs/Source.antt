-- The images of the nodes of an input that is source text.
use Rattle.std.specs.Prelude.{ℕ, ◌⊎◌, List, Result, Ok, Err}
use Rattle.ga_asm.specs.Image.{ImageView}
use Rattle.ga_asm.specs.Text.{IsImagesOf}
use Rattle.ga_input.specs.declared.fault.ServeError.{ServeError}
use Rattle.ga_input.specs.Fault.{fault_of_text}
use Rattle.ga_input.specs.Text.{IsInText}

-- the images of an input, or its first fault: it is no text, or that of the text, or else of its
-- program
abbrev pub IsImagesIn : List ℕ → Result (List (ℕ × ImageView)) ServeError → Type 0
IsImagesIn input answer = IsInText (λ text. fault_of_text) IsImagesOf input answer

-- the result of the images of an input, or their first fault
abbrev pub IsOfImages : (List (ℕ × ImageView) → Result (List ℕ) ServeError → Type 0) → List ℕ
    → Result (List ℕ) ServeError → Type 0
IsOfImages Makes input (Ok text) =
    (images : List (ℕ × ImageView)) × IsImagesIn input (Ok images) × Makes images (Ok text)
IsOfImages Makes input (Err fault) =
    IsImagesIn input (Err fault)
    ⊎ ((images : List (ℕ × ImageView)) × IsImagesIn input (Ok images) × Makes images (Err fault))
