use Rattle.std.proofs.Common.{◌≡◌, ◌++◌, string_bytes}
use Rattle.std.specs.List.{flat_map, range_with_len}
use Rattle.ga_profile.specs.Table.{row_at}
use Rattle.ga_profile.proofs.table.push_rows.Given as goal

-- the lines of as many nodes are written
abbrev pub invariant-loop-index : goal.invariant-loop-index
invariant-loop-index l =
    string_bytes l.text
    ≡ string_bytes l.initial.text
    ++ flat_map (row_at l.nodes l.passes l.path l.turns) (range_with_len 0 l.index)
