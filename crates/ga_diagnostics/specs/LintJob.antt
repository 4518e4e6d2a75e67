-- The job `lint`: what it writes.
use Rattle.std.specs.Prelude.{◌≡◌, ℕ, Bool, List, codes, Option, Some, Result, Ok, Err, flat_map, string_bytes, unwrap_or, if◌then◌else◌}
use Rattle.ga_expand.specs.declared.expansion.Expansion.{Expansion}
use Rattle.ga_explain.specs.Output.{meaning_of}
use Rattle.ga_faults.specs.Origin.{origin}
use Rattle.ga_lint.specs.Linting.{IsLintOf}
use Rattle.ga_lint.specs.Warning.{kind_name}
use Rattle.ga_lint.specs.declared.warning.Warning as lint
use Rattle.ga_messages.specs.Message.{written}
use Rattle.ga_messages.specs.declared.message.Form.{Form}
use Rattle.ga_messages.specs.declared.message.Form.TheVariants.{Json, Text}
use Rattle.ga_messages.specs.declared.message.Level.TheVariants.{Warning}
use Rattle.ga_input.specs.declared.fault.ServeError.{ServeError}
use Rattle.ga_input.specs.Larger.{IsExpandedInput}
use Rattle.ga_diagnostics.specs.ExpansionFault.{IsExpansionFault}
use Rattle.ga_diagnostics.specs.Lines.{Origins}
use Rattle.ga_diagnostics.specs.Message.{report_at}
use Rattle.ga_messages.specs.Shown.{shown_text}

-- the name of a file that may be left out: that of standard input is `-`
abbrev pub file_name : Option (List ℕ) → List ℕ
file_name file = unwrap_or file (codes "-")

-- the message of a warning about an expansion of a text, at the place where its token was written
abbrev pub warning_text : Origins → Form → List ℕ → Expansion → lint.Warning → List ℕ
warning_text origins form text made warning =
    let place = origin text made (record { line = warning.line; column = warning.column }) in
    written form (report_at (origins place.line) place.column Warning (kind_name warning.kind)
    (Some warning.node)
    (shown_text text place.line (Some place.column) (meaning_of (kind_name warning.kind))))

-- and those of several
abbrev pub warnings_text : Origins → Form → List ℕ → Expansion → List lint.Warning → List ℕ
warnings_text origins form text made warnings =
    flat_map (warning_text origins form text made) warnings

-- the form of messages, as JSON or as text
abbrev pub form_of : Bool → Form
form_of json = if json then Json else Text

-- What `lint` may write for an input whose lines were written there: the warnings about a text that
-- it expands to. Or the first fault.
abbrev pub IsLintOutput : Origins → Form → List ℕ → Result (List ℕ) ServeError → Type 0
IsLintOutput origins form input (Ok text) =
    (made : Expansion) × IsExpandedInput input (Ok made)
    × ((warnings : List lint.Warning) × IsLintOf (string_bytes made.text) (Ok warnings)
    × (text ≡ warnings_text origins form input made warnings))
IsLintOutput origins form input (Err fault) = IsExpansionFault input fault
