use Rattle.std.proofs.Common.{◌≡◌, ◌∙◌, ◌+◌, ◌++◌, ap, arith, length, sym}
use Rattle.std.specs.List.{flat_map, range_with_len}
use Rattle.ga_dump.proofs.Lines.{next_line}
use Rattle.ga_report.specs.Line.{edge, path_data}
use Rattle.ga_report.proofs.line.path_data.Goals as goal

pub loop-column-preserved : goal.loop-column-preserved
loop-column-preserved c =
    let column = c.loop-column.column in
    let edges = edge c.args.row.now c.args.kind in
    c.in_ok-push_edge.ensures ∙ ap (λ parts. parts ++ edges column) c.loop-column.invariant
    ∙ sym (next_line edges column)

pub returns : goal.returns
unfolding path_data
returns c =
    let all : c.loop-column.column ≡ length c.args.row.now + 1 = omega arith in
    c.loop-column.invariant
    ∙ ap (λ n. flat_map (edge c.args.row.now c.args.kind) (range_with_len 0 n)) all
