-- No number of a message is a float.
use Rattle.std.proofs.Common.{◌≡◌, ◌∙◌, ◌||◌, ℕ, Bool, false, List, None, Option, Some, ap, refl}
use Rattle.serde_json.specs.Written.{has_float}
use Rattle.ga_messages.specs.Json.{node_data, report_data, text_data}
use Rattle.ga_messages.specs.Report.{Report}

text_plain : (text : Option (List ℕ)) → has_float (text_data text) ≡ false
text_plain None = refl
text_plain (Some text) = refl

node_plain : (node : Option ℕ) → has_float (node_data node) ≡ false
node_plain None = refl
node_plain (Some name) = refl

either : (hint node : Bool) → hint ≡ false → node ≡ false → hint || (node || false) ≡ false
either hint node one other =
    ap (λ found. found || (node || false)) one ∙ ap (λ found. found || false) other

pub report_plain : (report : Report) → has_float (report_data report) ≡ false
unfolding report_data
report_plain report =
    either (has_float (text_data report.hint)) (has_float (node_data report.node))
    (text_plain report.hint) (node_plain report.node)
