-- The faults of a text.
use Rattle.std.specs.Prelude.{◌≡◌, ◌≤◌, ◌⊎◌, ℕ, Bool, List, [], ◌∷◌, ◌++◌, Contains, fold, length, take, string_bytes, Option, Some, None, Err, if◌then◌else◌}
use Rattle.std.specs.List.{AllZip, list_any}
use Rattle.ga_asm.specs.Image.{ImageView}
use Rattle.ga_asm.specs.Text.{HasImages, IsTextFault}
use Rattle.ga_asm.specs.declared.text.TextError.{TextError}
use Rattle.ga_asm.specs.declared.text.TextError.TheVariants as text_error
use Rattle.ga_expand.specs.Error.{fault_of}
use Rattle.ga_expand.specs.Texts.{IsExpansion, expansion}
use Rattle.ga_expand.specs.declared.expansion.Expansion.{Expansion}
use Rattle.ga_faults.specs.Order.{AreInOrder}
use Rattle.ga_faults.specs.Origin.{at_origin}
use Rattle.ga_faults.specs.Sections.{parts_of}
use Rattle.ga_faults.specs.contracts.fault.FaultPartialEq.TheImpl as equality
use Rattle.ga_faults.specs.declared.fault.Fault.{Fault}
use Rattle.ga_faults.specs.declared.fault.Fault.TheVariants.{Asm, Expand, Source}

-- ---- the first fault

-- a fault of a text that a text expands to, at the place where its token was written
abbrev pub IsWrittenFault : List ℕ → TextError → Type 0
IsWrittenFault text fault =
    (made : Expansion) × IsExpansion text made
    × ((found : TextError) × IsTextFault (string_bytes made.text) found
    × (at_origin text made found ≡ fault))

-- a text expands to one that assembles
abbrev pub Assembles : List ℕ → Type 0
Assembles text =
    (made : Expansion) × IsExpansion text made
    × ((images : List (ℕ × ImageView)) × HasImages (string_bytes made.text) images)

-- The first fault of a text: that of its expansion, or else that of the text that it expands to.
-- Or there is none.
abbrev pub IsFirstFault : List ℕ → Option Fault → Type 0
IsFirstFault text (Some (Expand error)) = expansion text ≡ Err (fault_of error)
IsFirstFault text (Some (Source error)) = IsWrittenFault text (text_error.Source error)
IsFirstFault text (Some (Asm error)) = IsWrittenFault text (text_error.Asm error)
IsFirstFault text None = Assembles text

-- ---- all faults

-- whether two faults are equal
abbrev pub is_same : Fault → Fault → Bool
is_same = equality.eq-value.it

-- faults, and behind them one more, if there is one and it isn't among them
abbrev pub with_new : List Fault → Option Fault → List Fault
with_new faults None = faults
with_new faults (Some fault) =
    if list_any (λ other. is_same other fault) faults then faults else faults ++ fault ∷ []

-- each fault once, in the order in which they come
abbrev pub distinct : List (Option Fault) → List Fault
distinct found = fold with_new [] found

-- the first faults of texts, each once
abbrev pub AreFirstFaults : List (List ℕ) → List Fault → Type 0
AreFirstFaults texts faults =
    (found : List (Option Fault)) × AllZip IsFirstFault texts found × (faults ≡ distinct found)

-- at most 20 faults are reported
abbrev pub most_faults : ℕ
most_faults = 20

-- The first faults of the parts of a text, from the first part on: those of all parts, or of the
-- first ones if these have 20 faults.
abbrev pub ArePartFaults : List ℕ → List Fault → Type 0
ArePartFaults text faults =
    (count : ℕ) × AreFirstFaults (take count (parts_of text)) faults
    × ((length (parts_of text) ≤ count) ⊎ (most_faults ≤ length faults))

-- the first fault of a text in front of the others, if it isn't among them
abbrev pub with_first : Fault → List Fault → List Fault
with_first first faults =
    if list_any (λ other. is_same other first) faults then faults
    else take most_faults (first ∷ faults)

-- The faults of a text whose first one is known, if it has one: those of its parts, in the order of
-- their places. The first one may be in no part, as at a node that two sections have.
abbrev pub AreFaults : List ℕ → Option Fault → List Fault → Type 0
AreFaults text None faults = faults ≡ []
AreFaults text (Some first) faults =
    (found : List Fault) × ArePartFaults text found
    × AreInOrder (with_first first (take most_faults found)) faults

-- the faults of a text
abbrev pub IsFaults : List ℕ → List Fault → Type 0
IsFaults text faults =
    (first : Option Fault) × IsFirstFault text first × AreFaults text first faults

-- ---- a law

-- the first fault of a text is among these, or they are none, and it has none
abbrev pub HasFirst : List ℕ → List Fault → Type 0
HasFirst text [] = Assembles text
HasFirst text (fault ∷ faults) =
    (first : Fault) × IsFirstFault text (Some first) × Contains (fault ∷ faults) first
