-- The members of a message's object, in the parts in which they are put there.
use Rattle.std.specs.Prelude.{codes}
use Rattle.serde_json.specs.Data.{Members, put, string}
use Rattle.ga_messages.specs.Report.{Report, level_name}
use Rattle.ga_messages.specs.Shown.{numbered_line}
use Rattle.ga_messages.specs.Json.{node_data, number_data, text_data}

-- the members of an object, with those of a report for its place, its kind, and what may help
abbrev pub with_place : Report → Members → Members
with_place report members =
    put (codes "column") (number_data report.column) (put (codes "line") (number_data report.line)
    (put (codes "file") (string report.file) members))

abbrev pub with_kind : Report → Members → Members
with_kind report members =
    put (codes "meaning") (string (numbered_line report.shown 3))
    (put (codes "name") (string report.kind)
    (put (codes "level") (string (level_name report.level)) members))

abbrev pub with_help : Report → Members → Members
with_help report members =
    put (codes "hint") (text_data report.hint) (put (codes "node") (node_data report.node) members)
