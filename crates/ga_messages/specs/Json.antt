-- A message as JSON.
use Rattle.std.specs.Prelude.{ℕ, List, codes, Option, Some, None}
use Rattle.serde_json.specs.Data.{Data, Members, member, no_members, null, number, object, string, unsigned}
use Rattle.ga_place.specs.Node.{node_text}
use Rattle.ga_messages.specs.Report.{Report, level_name}
use Rattle.ga_messages.specs.Shown.{numbered_line}

abbrev pub number_data : ℕ → Data
number_data value = number (unsigned value)

-- a member of an object whose value is a number, and one whose value is a text
abbrev pub number_member : List ℕ → ℕ → Members → Members
number_member key value members = member key (number_data value) members

abbrev pub text_member : List ℕ → List ℕ → Members → Members
text_member key value members = member key (string value) members

-- a text, if there is one
abbrev pub text_data : Option (List ℕ) → Data
text_data (Some text) = string text
text_data None = null

-- the name of a node, if there is one
abbrev pub node_data : Option ℕ → Data
node_data (Some name) = string (node_text name)
node_data None = null

-- a report, the keys of which are in the order of the alphabet
unfoldable pub report_data : Report → Data
report_data report =
    object (number_member (codes "column") report.column
    (text_member (codes "file") report.file (member (codes "hint") (text_data report.hint)
    (text_member (codes "level") (level_name report.level)
    (number_member (codes "line") report.line
    (text_member (codes "meaning") (numbered_line report.shown 3)
    (text_member (codes "name") report.kind
    (member (codes "node") (node_data report.node) no_members))))))))
