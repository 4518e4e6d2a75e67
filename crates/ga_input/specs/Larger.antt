-- What the program may do for a file, whose source text may be of the larger language.
use Rattle.std.specs.Prelude.{◌≡◌, ◌⊎◌, ◌&&◌, ℕ, Bool, true, false, List, codes, nat_eq, Option, Some, None, Result, Ok, Err, string_bytes, if◌then◌else◌}
use Rattle.std.specs.List.{starts_with}
use Rattle.ga_asm.specs.declared.text.TextError.{TextError}
use Rattle.ga_asm.specs.declared.text.TextError.TheVariants as text_error
use Rattle.ga_expand.specs.Error.{fault_of}
use Rattle.ga_expand.specs.Texts.{IsExpansion, expansion}
use Rattle.ga_expand.specs.declared.error.ExpandError.{ExpandError}
use Rattle.ga_expand.specs.declared.expansion.Expansion.{Expansion}
use Rattle.ga_faults.specs.Origin.{at_origin}
use Rattle.ga_input.specs.declared.fault.ServeError.{ServeError}
use Rattle.ga_input.specs.declared.fault.ServeError.TheVariants.{Asm, Shown, Source}
use Rattle.ga_input.specs.declared.fault.TextFault.TheVariants as shown
use Rattle.ga_input.specs.Text.{IsInText}
use Rattle.ga_input.specs.TextFault.{shown_expand_fault, shown_fault}

-- the fault of a source text by itself, if a fault is one
abbrev pub source_fault : ServeError → Option TextError
source_fault (Source error) = Some (text_error.Source error)
source_fault (Asm error) = Some (text_error.Asm error)
source_fault (Shown (shown.Source error) lines) = Some (text_error.Source error)
source_fault (Shown (shown.Asm error) lines) = Some (text_error.Asm error)
source_fault fault = None

-- a session, and no source text
abbrev pub is_session : List ℕ → Bool
is_session input = starts_with nat_eq input (codes "profile")

-- whether a fault comes with the lines that are shown of its text
abbrev pub is_shown : ServeError → Bool
is_shown (Shown fault lines) = true
is_shown fault = false

-- The fault of an input that was read as source text, if a fault is one. A job that takes a session
-- too shows the lines of its faults.
abbrev pub plain_fault : List ℕ → ServeError → Option TextError
plain_fault input fault =
    if is_session input && is_shown fault then None else source_fault fault

abbrev pub written_if : List ℕ → Expansion → ServeError → Option TextError → ServeError
written_if text made fault (Some error) = shown_fault text (at_origin text made error)
written_if text made fault None = fault

-- The fault of an expansion as it is reported: if it is one of source text, at the place where its
-- token was written, with the lines that are shown of the text.
abbrev pub as_written : List ℕ → Expansion → ServeError → ServeError
as_written text made fault = written_if text made fault (source_fault fault)

-- ---- answers

-- what a text expands to, or its first fault
abbrev pub IsExpansionOf : List ℕ → Result Expansion ExpandError → Type 0
IsExpansionOf text (Ok made) = IsExpansion text made
IsExpansionOf text (Err error) = expansion text ≡ Err (fault_of error)

-- what an input expands to, or its first fault, with what is shown of its text
abbrev pub IsExpandedInput : List ℕ → Result Expansion ServeError → Type 0
IsExpandedInput input answer = IsInText shown_expand_fault IsExpansionOf input answer

-- An answer to text of the larger language: one to what it expands to, with faults at the places
-- where their tokens were written; or the first fault of the expansion.
abbrev pub IsOfLarger : {B : Type 0} → (List ℕ → Result B ServeError → Type 0) → List ℕ
    → Result B ServeError → Type 0
IsOfLarger Is input (Ok found) =
    (made : Expansion) × IsExpandedInput input (Ok made) × Is (string_bytes made.text) (Ok found)
IsOfLarger Is input (Err fault) =
    IsExpandedInput input (Err fault)
    ⊎ ((made : Expansion) × IsExpandedInput input (Ok made)
    × ((found : ServeError) × Is (string_bytes made.text) (Err found)
    × (as_written input made found ≡ fault)))

-- an input is refused as source text
abbrev pub IsRefused : {B : Type 0} → (List ℕ → Result B ServeError → Type 0) → List ℕ → Type 0
IsRefused Is input =
    (fault : ServeError) × Is input (Err fault)
    × ((error : TextError) × (plain_fault input fault ≡ Some error))

-- An answer to the bytes of a file: one to the bytes themselves. But if they are refused as source
-- text, it is one to text of the larger language.
unfoldable pub IsOfFile : {B : Type 0} → (List ℕ → Result B ServeError → Type 0) → List ℕ
    → Result B ServeError → Type 0
IsOfFile Is input (Ok found) =
    Is input (Ok found) ⊎ (IsRefused Is input × IsOfLarger Is input (Ok found))
IsOfFile Is input (Err fault) =
    (Is input (Err fault) × (plain_fault input fault ≡ None))
    ⊎ (IsRefused Is input × IsOfLarger Is input (Err fault))
