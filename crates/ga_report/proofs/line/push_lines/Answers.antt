use Rattle.std.proofs.Common.{rules, string_bytes}
use Rattle.ga_dump.proofs.Lines.{line_more}
use Rattle.ga_report.specs.Kind.{KINDS}
use Rattle.ga_report.specs.declared.kind.Kind.TheVariants.{Works}
use Rattle.ga_report.specs.Line.{line_of}
use Rattle.ga_report.proofs.line.push_lines.Goals as goal

pub loop-kind-preserved : goal.loop-kind-preserved
loop-kind-preserved c =
    line_more (line_of c.args.row.now) KINDS c.loop-kind.kind-index Works
    (string_bytes c.loop-kind.text) _ _ (search rules) c.loop-kind.invariant
    c.in_ok-push_line.ensures
