use Rattle.std.proofs.Common.{◌≡◌, ◌∙◌, ◌+◌, ◌++◌, ap, arith, length, sym}
use Rattle.std.specs.List.{flat_map, range_with_len}
use Rattle.ga_dump.proofs.Lines.{next_line}
use Rattle.ga_report.specs.PathLine.{path_edge, path_edges}
use Rattle.ga_report.proofs.path_line.path_edges.Goals as goal

pub loop-column-preserved : goal.loop-column-preserved
loop-column-preserved c =
    let column = c.loop-column.column in
    let edges = path_edge c.args.holders.now c.args.index in
    c.in_ok-push_path_edge.ensures ∙ ap (λ parts. parts ++ edges column) c.loop-column.invariant
    ∙ sym (next_line edges column)

pub returns : goal.returns
unfolding path_edges
returns c =
    let all : c.loop-column.column ≡ length c.args.holders.now + 1 = omega arith in
    c.loop-column.invariant
    ∙ ap (λ n. flat_map (path_edge c.args.holders.now c.args.index) (range_with_len 0 n)) all
