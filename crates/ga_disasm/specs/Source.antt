-- Source texts of words.
use Rattle.std.specs.Prelude.{◌≡◌, ◌<◌, ◌≤◌, ◌^◌, ℕ, List, [], ◌∷◌, All, length}
use Rattle.ga_pack.specs.Model.Layout.{Laid, Labels}
use Rattle.ga_pack.specs.Model.LayoutFault.{ProgramFault, plain_items}
use Rattle.ga_pack.specs.Model.Program.{IsFault, IsProgram, PlacedSection}
use Rattle.ga_pack.specs.Model.Text.{Place}
use Rattle.ga_pack.specs.declared.error_kind.SourceErrorKind.{SourceErrorKind}
use Rattle.ga_pack.specs.declared.error_kind.AsmErrorKind.{AsmErrorKind}

-- one to 64 words, of which the first `code_len` are code
pub record FitNode (words : List ℕ) (code_len : ℕ) : Type 0 where
  pub some : 0 < length words
  pub most : length words ≤ 64
  pub code_within : code_len ≤ length words
  pub below : All (λ word. word < 2 ^ 18) words

-- A text is a source text of these words, of which the first `code_len` are code: it is a text of
-- the grammar without fault, its only program is one node, 000, and has no fault, and the layout
-- allows for it these words and no others.
pub record IsSourceOf (text words : List ℕ) (code_len : ℕ) : Type 0 where
  pub section : PlacedSection
  pub program_is : IsProgram text (section ∷ [])
  pub only_program : (program : List PlacedSection) → IsProgram text program
      → program ≡ section ∷ []
  pub node_is : section.name ≡ 0
  pub no_source_fault : (kind : SourceErrorKind) (place : Place) → IsFault text kind place → ⊥
  pub no_program_fault : (node : ℕ) (place : Place) (kind : AsmErrorKind)
      → ProgramFault (section ∷ []) node place kind → ⊥
  pub laid : Laid (plain_items section) words [] code_len
  pub only : (words' : List ℕ) (labels : Labels) (code_len' : ℕ)
      → Laid (plain_items section) words' labels code_len'
      → (words' ≡ words) × (labels ≡ []) × (code_len' ≡ code_len)
