use Rattle.std.proofs.Common.{◌≡◌, ◌++◌, string_bytes}
use Rattle.std.specs.List.{flat_map, range_with_len}
use Rattle.ga_report.specs.Rows.{row_at}
use Rattle.ga_report.proofs.rows.push_rows.Given as goal

-- the rows of as many nodes are written
abbrev pub invariant-loop-index : goal.invariant-loop-index
invariant-loop-index l =
    string_bytes l.text
    ≡ string_bytes l.initial.text
    ++ flat_map (row_at l.nodes l.timeline) (range_with_len 0 l.index)
