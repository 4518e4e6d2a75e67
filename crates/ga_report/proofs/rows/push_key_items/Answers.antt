use Rattle.std.proofs.Common.{rules, string_bytes}
use Rattle.ga_dump.proofs.Lines.{line_more}
use Rattle.ga_report.specs.Kind.{KINDS}
use Rattle.ga_report.specs.declared.kind.Kind.TheVariants.{Works}
use Rattle.ga_report.specs.Rows.{key_item}
use Rattle.ga_report.proofs.rows.push_key_items.Goals as goal

pub loop-kind-preserved : goal.loop-kind-preserved
loop-kind-preserved c =
    line_more key_item KINDS c.loop-kind.kind-index Works (string_bytes c.loop-kind.text) _ _
    (search rules) c.loop-kind.invariant c.in_ok-push_key_item.ensures
