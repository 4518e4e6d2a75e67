use Rattle.std.proofs.Common.{◌≡◌, ◌++◌, string_bytes}
use Rattle.std.specs.List.{flat_map, range_with_len}
use Rattle.ga_report.specs.Picture.{node_at}
use Rattle.ga_report.proofs.picture.push_nodes.Given as goal

-- as many nodes are written
abbrev pub invariant-loop-index : goal.invariant-loop-index
invariant-loop-index l =
    string_bytes l.text
    ≡ string_bytes l.initial.text ++ flat_map (node_at l.chip l.nodes) (range_with_len 0 l.index)
