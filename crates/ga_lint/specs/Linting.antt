-- The warnings about a source text.
use Rattle.std.specs.Prelude.{◌≡◌, ℕ, suc, List, [], ◌∷◌, ◌++◌, Result, Ok, Err}
use Rattle.ga_asm.specs.Image.{ImageView}
use Rattle.ga_asm.specs.Text.{HasImages, IsTextFault}
use Rattle.ga_asm.specs.declared.text.TextError.{TextError}
use Rattle.ga_lint.specs.NodeView.{node_view}
use Rattle.ga_lint.specs.NodeWarnings.{node_warnings}
use Rattle.ga_lint.specs.declared.warning.Warning.{Warning}
use Rattle.ga_pack.specs.Model.Program.{PlacedSection}
use Rattle.ga_source.specs.Program.{items_at}

-- the warnings about images, of which the first is that of the program's section with this number
abbrev pub warnings_from : List PlacedSection → ℕ → List (ℕ × ImageView) → List Warning
warnings_from program section [] = []
warnings_from program section (image ∷ images) =
    node_warnings image.0 (node_view (items_at program section) image.1)
    ++ warnings_from program (suc section) images

-- the warnings about a text: those about its images, in the order of its sections
pub record HasWarnings (text : List ℕ) (warnings : List Warning) : Type 0 where
  pub images : List (ℕ × ImageView)
  pub images_are : HasImages text images
  pub warnings_are : warnings ≡ warnings_from images_are.program 0 images

-- the warnings about a text, or its first fault
abbrev pub IsLintOf : List ℕ → Result (List Warning) TextError → Type 0
IsLintOf text (Ok warnings) = HasWarnings text warnings
IsLintOf text (Err fault) = IsTextFault text fault
