use Rattle.std.proofs.Common.{◌≡◌, string_bytes}
use Rattle.std.specs.List.{flat_map, range_with_len}
use Rattle.ga_report.specs.PathLine.{path_edge}
use Rattle.ga_report.proofs.path_line.path_edges.Given as goal

-- the edges of as many columns are written
abbrev pub invariant-loop-column : goal.invariant-loop-column
invariant-loop-column l =
    string_bytes l.parts ≡ flat_map (path_edge l.holders l.index) (range_with_len 0 l.column)
