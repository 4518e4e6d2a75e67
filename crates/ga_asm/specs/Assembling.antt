-- The images of a program, and its first fault, as the contracts have them.
use Rattle.std.specs.Prelude.{◌≡◌, ℕ, List, [], ◌∷◌}
use Rattle.ga_pack.specs.Model.LayoutFault.{ProgramFault, plain_items}
use Rattle.ga_pack.specs.Model.Program.{PlacedSection}
use Rattle.ga_pack.specs.Model.Text.{Place}
use Rattle.ga_asm.specs.Image.{ImageView, IsImage}
use Rattle.ga_pack.specs.declared.error_kind.AsmErrorKind.{AsmErrorKind}

-- These are the images of a program's sections, in their order, each with its node.
unfoldable pub IsAssembled : List PlacedSection → List (ℕ × ImageView) → Type 0
IsAssembled [] [] = Unit {0}
IsAssembled [] (image ∷ images) = ⊥
IsAssembled (section ∷ sections) [] = ⊥
IsAssembled (section ∷ sections) (image ∷ images) =
    (image.0 ≡ section.name) × IsImage (plain_items section) image.1 × IsAssembled sections images

-- the program has no fault
abbrev pub HasNoFault : List PlacedSection → Type 0
HasNoFault program =
    (node : ℕ) (place : Place) (kind : AsmErrorKind) → ProgramFault program node place kind → ⊥
