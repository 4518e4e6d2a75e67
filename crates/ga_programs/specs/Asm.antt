-- The job `asm`: what it writes.
use Rattle.std.specs.Prelude.{ℕ, List, [], ◌∷◌, ◌++◌, Result}
use Rattle.ga_word.specs.Text.{text_of_words}
use Rattle.ga_asm.specs.Image.{ImageView, image_line}
use Rattle.ga_input.specs.declared.fault.ServeError.{ServeError}
use Rattle.ga_input.specs.Source.{IsImagesIn}
use Rattle.ga_input.specs.Text.{IsMade}

-- the images in order, of each its line and its words
abbrev pub images_text : List (ℕ × ImageView) → List ℕ
images_text [] = []
images_text (image ∷ images) =
    (image_line image.0 image.1 ++ text_of_words image.1.words) ++ images_text images

-- what `asm` may write for an input, or its first fault
abbrev pub IsAsmOutput : List ℕ → Result (List ℕ) ServeError → Type 0
IsAsmOutput input answer = IsMade (IsImagesIn input) images_text answer
