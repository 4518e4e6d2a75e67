-- Messages about places in a file.
use Rattle.std.specs.Prelude.{ℕ, List, [], ◌++◌, codes, Option, Some, None, option_map, string_bytes}
use Rattle.std.specs.Fmt.{decimal}
use Rattle.serde_json.specs.Written.{compact_text}
use Rattle.ga_place.specs.Node.{node_text}
use Rattle.ga_messages.specs.declared.message.Form.{Form}
use Rattle.ga_messages.specs.declared.message.Form.TheVariants.{Json, Text}
use Rattle.ga_messages.specs.declared.message.Level.{Level}
use Rattle.ga_messages.specs.declared.message.Message.{Message}
use Rattle.ga_messages.specs.Json.{report_data}
use Rattle.ga_messages.specs.Report.{Report, level_name}
use Rattle.ga_messages.specs.Shown.{numbered_line, shown_name}

-- the node whose program has a fault
abbrev pub node_remark : Option ℕ → List ℕ
node_remark (Some name) = codes " (node " ++ node_text name ++ codes ")"
node_remark None = []

-- what may help, in one line, as it may have a token of the text
abbrev pub hint_remark : Option (List ℕ) → List ℕ
hint_remark (Some hint) = codes "; " ++ shown_name hint
hint_remark None = []

-- where a message about a line and a column of a file is
unfoldable pub place_text : List ℕ → ℕ → ℕ → List ℕ
place_text file line column =
    shown_name file ++ codes ":" ++ decimal line ++ codes ":" ++ decimal column ++ codes ": "

-- how grave it is, its kind, and what that means
unfoldable pub kind_text : Level → List ℕ → List ℕ → List ℕ
kind_text level kind meaning = level_name level ++ codes ": " ++ kind ++ codes ": " ++ meaning

-- the line of the place, and a caret
unfoldable pub lines_text : List ℕ → List ℕ
lines_text shown =
    codes "\n" ++ numbered_line shown 1 ++ codes "\n" ++ numbered_line shown 2 ++ codes "\n"

-- a report as compilers write it
unfoldable pub report_text : Report → List ℕ
report_text report =
    place_text report.file report.line report.column
    ++ kind_text report.level report.kind (numbered_line report.shown 3)
    ++ node_remark report.node ++ hint_remark report.hint ++ lines_text report.shown

-- the report that a message has
abbrev pub report_in : Message → Report
report_in message = record {
  file = message.file.now;
  line = message.place.line;
  column = message.place.column;
  level = message.level;
  kind = message.kind.now;
  node = message.node;
  hint = option_map string_bytes message.hint;
  shown = message.shown.now;
}

-- a report in a form: as JSON it is an object on a line
abbrev pub written : Form → Report → List ℕ
written Text report = report_text report
written Json report = compact_text (report_data report) ++ codes "\n"
