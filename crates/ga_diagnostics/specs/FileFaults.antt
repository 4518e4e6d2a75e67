-- What is reported of a source text that was refused.
use Rattle.std.specs.Prelude.{◌≡◌, ◌&&◌, ℕ, Bool, true, false, not, List, [], ◌∷◌, ◌++◌, Option, Some, None, option_map, unwrap_or, if◌then◌else◌}
use Rattle.ga_asm.specs.declared.text.TextError.TheVariants as text_error
use Rattle.ga_faults.specs.Faults.{IsFaults}
use Rattle.ga_faults.specs.declared.fault.Fault.{Fault}
use Rattle.ga_faults.specs.declared.fault.Fault.TheVariants as faults
use Rattle.ga_hints.specs.Hints.{IsHint, hint_of, hint_text}
use Rattle.ga_hints.specs.declared.hint_kind.Hint.{Hint}
use Rattle.ga_messages.specs.declared.message.Form.{Form}
use Rattle.ga_input.specs.declared.fault.ServeError.{ServeError}
use Rattle.ga_input.specs.declared.fault.ServeError.TheVariants.{Shown}
use Rattle.ga_input.specs.declared.fault.TextFault.TheVariants.{Asm, Expand, Source}
use Rattle.ga_input.specs.Larger.{is_session}
use Rattle.ga_diagnostics.specs.Lines.{Origins}
use Rattle.ga_diagnostics.specs.Message.{told}
use Rattle.ga_diagnostics.specs.PlacedFault.{placed_message}
use Rattle.ga_input.specs.Text.{as_text}
use Rattle.ga_input.specs.TextFault.{shown_expand_fault, shown_fault}

-- a fault of a text with the lines that are shown of it
abbrev pub shown_of : List ℕ → Fault → ServeError
shown_of text (faults.Expand error) = shown_expand_fault text error
shown_of text (faults.Source error) = shown_fault text (text_error.Source error)
shown_of text (faults.Asm error) = shown_fault text (text_error.Asm error)

-- what may help with a fault of a text, if anything is known
unfoldable pub IsHintText : List ℕ → Fault → Option (List ℕ) → Type 0
IsHintText text fault hint =
    (found : Option Hint) × IsHint text fault (option_map hint_of found)
    × (hint ≡ option_map hint_text found)

-- the message of a fault of a text whose lines were written there, with what may help
unfoldable pub IsFaultMessage : Origins → Form → List ℕ → Fault → List ℕ → Type 0
IsFaultMessage origins form text fault message =
    (hint : Option (List ℕ)) × IsHintText text fault hint
    × (message ≡ unwrap_or (told origins form hint (shown_of text fault)) [])

-- those of several faults, one behind the other
abbrev pub AreFaultMessages : Origins → Form → List ℕ → List Fault → List ℕ → Type 0
AreFaultMessages origins form text [] told = told ≡ []
AreFaultMessages origins form text (fault ∷ faults) told =
    (message : List ℕ) × IsFaultMessage origins form text fault message
    × ((rest : List ℕ) × AreFaultMessages origins form text faults rest
    × (told ≡ message ++ rest))

-- the messages of all faults of a text
unfoldable pub AreFaultsIn : Origins → Form → List ℕ → List ℕ → Type 0
AreFaultsIn origins form text told =
    (found : List Fault) × IsFaults text found × AreFaultMessages origins form text found told

-- whether a fault is one of source text
abbrev pub is_of_text : ServeError → Bool
is_of_text (Shown (Source error) shown) = true
is_of_text (Shown (Asm error) shown) = true
is_of_text (Shown (Expand error) shown) = true
is_of_text fault = false

-- the source text of an input that was refused with a fault, if the fault is one of source text
abbrev pub source_in : List ℕ → ServeError → Option (List ℕ)
source_in input fault =
    if not (is_session input) && is_of_text fault then as_text input else None

abbrev pub AreTold : Origins → Form → List ℕ → ServeError → Option (List ℕ) → Option (List ℕ)
    → Type 0
AreTold origins form input fault (Some text) told =
    (message : List ℕ) × AreFaultsIn origins form text message × (told ≡ Some message)
AreTold origins form input fault None told = told ≡ placed_message origins form input fault

-- What is reported of an input that was refused with a fault: if it is one of source text, all
-- faults of the text; or else the fault alone, if it has a place.
unfoldable pub AreFaultsTold : Origins → Form → List ℕ → ServeError → Option (List ℕ) → Type 0
AreFaultsTold origins form input fault told =
    AreTold origins form input fault (source_in input fault) told
