-- The fault of a text with what is shown of the text.
use Rattle.std.specs.Prelude.{ℕ, List, Some}
use Rattle.ga_pack.specs.Model.LayoutFault.{asm_kind_name}
use Rattle.ga_pack.specs.Model.Token.{source_kind_name}
use Rattle.ga_asm.specs.declared.text.TextError.{TextError}
use Rattle.ga_asm.specs.declared.text.TextError.TheVariants as text_error
use Rattle.ga_expand.specs.Error.{kind_name}
use Rattle.ga_expand.specs.declared.error.ExpandError.{ExpandError}
use Rattle.ga_expand.specs.declared.error.ExpandErrorKind.TheVariants as expand_kind
use Rattle.ga_explain.specs.Output.{meaning_of}
use Rattle.ga_input.specs.declared.fault.IncludeFault.{IncludeFault}
use Rattle.ga_input.specs.declared.fault.ServeError.{ServeError}
use Rattle.ga_input.specs.declared.fault.ServeError.TheVariants.{Shown, Memory}
use Rattle.ga_input.specs.declared.fault.TextFault.TheVariants.{Source, Asm, Expand, Include}
use Rattle.ga_input.specs.Fault.{refusal_name}
use Rattle.ga_messages.specs.Shown.{shown_text}

-- the fault of a source text, or of its program, with the line of its place, a caret and what it
-- means
abbrev pub shown_fault : List ℕ → TextError → ServeError
shown_fault text (text_error.Source error) =
    let meaning = meaning_of (source_kind_name error.kind) in
    Shown (Source error) (shown_text text error.line (Some error.column) meaning)
shown_fault text (text_error.Asm error) =
    let meaning = meaning_of (asm_kind_name error.kind) in
    Shown (Asm error) (shown_text text error.line (Some error.column) meaning)
shown_fault text text_error.Memory = Memory

-- the fault of a text of the larger language, with the line of its place, a caret and what it means
abbrev pub shown_expand_fault : List ℕ → ExpandError → ServeError
shown_expand_fault text error = elim error.kind [
  | expand_kind.Memory ↦ Memory
  | _ ↦ let meaning = meaning_of (kind_name error.kind) in
      Shown (Expand error) (shown_text text error.line (Some error.column) meaning)
]

-- an include line of a text that was refused, with the line, a caret and what it means
abbrev pub shown_include_fault : List ℕ → IncludeFault → ServeError
shown_include_fault text fault =
    let meaning = meaning_of (refusal_name fault.refusal) in
    Shown (Include fault) (shown_text text fault.line (Some fault.column) meaning)
