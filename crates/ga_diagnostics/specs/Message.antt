-- Messages about the faults of source text.
use Rattle.std.specs.Prelude.{ℕ, List, Option, Some, None, option_map}
use Rattle.ga_pack.specs.Model.LayoutFault.{asm_kind_name}
use Rattle.ga_pack.specs.Model.Token.{source_kind_name}
use Rattle.ga_expand.specs.Error.{kind_name}
use Rattle.ga_messages.specs.Message.{written}
use Rattle.ga_messages.specs.Report.{Report}
use Rattle.ga_messages.specs.declared.message.Form.{Form}
use Rattle.ga_messages.specs.declared.message.Level.{Level}
use Rattle.ga_messages.specs.declared.message.Level.TheVariants.{Error}
use Rattle.ga_input.specs.declared.fault.ServeError.{ServeError}
use Rattle.ga_input.specs.declared.fault.ServeError.TheVariants.{Shown}
use Rattle.ga_input.specs.declared.fault.TextFault.{TextFault}
use Rattle.ga_input.specs.declared.fault.TextFault.TheVariants as fault
use Rattle.ga_input.specs.Fault.{refusal_name}
use Rattle.ga_diagnostics.specs.Lines.{Origin, Origins, origins_in}

-- a report on a column of a line of a file, with what is shown of the text
abbrev pub report_at : Origin → ℕ → Level → List ℕ → Option ℕ → List ℕ → Report
report_at at column level kind node shown = record {
  file = at.name;
  line = at.line;
  column = column;
  level = level;
  kind = kind;
  node = node;
  hint = None;
  shown = shown;
}

-- the report on a fault of source text whose lines were written there, or of a source that the
-- text names, with what is shown of the text
abbrev pub report_of : Origins → TextFault → List ℕ → Option Report
report_of origins (fault.Source error) shown =
    Some (report_at (origins error.line) error.column Error (source_kind_name error.kind) None
    shown)
report_of origins (fault.SourceOf source error) shown =
    Some (report_at (origins_in source error.line) error.column Error
    (source_kind_name error.kind) None shown)
report_of origins (fault.Asm error) shown =
    Some (report_at (origins error.line) error.column Error (asm_kind_name error.kind)
    (Some error.node) shown)
report_of origins (fault.AsmOf source error) shown =
    Some (report_at (origins_in source error.line) error.column Error
    (asm_kind_name error.kind) (Some error.node) shown)
report_of origins (fault.Expand error) shown =
    Some (report_at (origins error.line) error.column Error (kind_name error.kind) None shown)
report_of origins (fault.Include error) shown =
    Some (report_at (origins error.line) error.column Error (refusal_name error.refusal) None
    shown)
report_of origins fault shown = None

-- the same for any fault of a text, if it has a place in source text
abbrev pub fault_report : Origins → ServeError → Option Report
fault_report origins (Shown fault shown) = report_of origins fault shown
fault_report origins fault = None

-- the message of a fault, with what may help, if anything is known
abbrev pub told : Origins → Form → Option (List ℕ) → ServeError → Option (List ℕ)
told origins form hint fault =
    option_map (λ report. written form (record report { hint = hint }))
    (fault_report origins fault)

-- the message of a fault by itself
abbrev pub fault_message : Origins → Form → ServeError → Option (List ℕ)
fault_message origins form fault = told origins form None fault
