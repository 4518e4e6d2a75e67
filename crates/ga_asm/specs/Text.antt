-- The images of a source text, or its first fault.
use Rattle.std.specs.Prelude.{◌≡◌, ℕ, List, Result, Ok, Err}
use Rattle.ga_pack.specs.Model.LayoutFault.{ProgramFault}
use Rattle.ga_pack.specs.Model.Program.{IsFault, IsProgram, PlacedSection}
use Rattle.ga_source.specs.declared.error.SourceError.{SourceError}
use Rattle.ga_pack.specs.declared.error_kind.SourceErrorKind.{SourceErrorKind}
use Rattle.ga_pack.specs.declared.error_kind.SourceErrorKind.TheVariants as source_kind
use Rattle.ga_source.specs.Error as source
use Rattle.ga_asm.specs.declared.error.AsmError.{AsmError}
use Rattle.ga_pack.specs.declared.error_kind.AsmErrorKind.{AsmErrorKind}
use Rattle.ga_pack.specs.declared.error_kind.AsmErrorKind.TheVariants as asm_kind
use Rattle.ga_asm.specs.declared.text.TextError.{TextError}
use Rattle.ga_asm.specs.declared.text.TextError.TheVariants.{Source, Asm, Memory}
use Rattle.ga_asm.specs.Assembling.{HasNoFault, IsAssembled}
use Rattle.ga_asm.specs.Error as assembly
use Rattle.ga_asm.specs.Image.{ImageView}

-- A text with these images: its program has no fault, and they are the program's.
pub record HasImages (text : List ℕ) (images : List (ℕ × ImageView)) : Type 0 where
  pub program : List PlacedSection
  pub program_is : IsProgram text program
  pub faultless : HasNoFault program
  pub assembled : IsAssembled program images

-- The first fault of a text or, if it has none, of its program. Out of memory is a fault of no
-- text.
abbrev pub IsTextFault : List ℕ → TextError → Type 0
IsTextFault text (Source error) = IsFault text error.kind (source.error_place error)
IsTextFault text (Asm error) =
    (program : List PlacedSection) × IsProgram text program
    × ProgramFault program error.node (assembly.error_place error) error.kind
IsTextFault text Memory = ⊥

-- the images of a text, or its first fault
abbrev pub IsImagesOf : List ℕ → Result (List (ℕ × ImageView)) TextError → Type 0
IsImagesOf text (Ok images) = HasImages text images
IsImagesOf text (Err fault) = IsTextFault text fault

-- no two values are so
abbrev pub AtMostOne : {A : Type 0} → (A → Type 0) → Type 0
AtMostOne {A = A} Is = (one other : A) → Is one → Is other → one ≡ other

-- why a text has no images, by why it has no program, or its program has none
abbrev pub fault_of_source : SourceErrorKind → SourceError → TextError
fault_of_source source_kind.Memory error = Memory
fault_of_source kind error = Source error

abbrev pub fault_of_asm : AsmErrorKind → AsmError → TextError
fault_of_asm asm_kind.Memory error = Memory
fault_of_asm kind error = Asm error
