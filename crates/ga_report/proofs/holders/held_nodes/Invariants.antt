use Rattle.std.proofs.Common.{◌≡◌, ◌+◌, None, get_or, map}
use Rattle.std.specs.List.{range_with_len}
use Rattle.ga_report.specs.Holder.{held}
use Rattle.ga_report.proofs.holders.held_nodes.Given as goal

-- the nodes of as many columns
abbrev pub invariant-loop-column : goal.invariant-loop-column
invariant-loop-column l = record {
  holder : l.holder ≡ held (λ at. get_or l.trail.nodes at None) l.column;
  nodes : l.nodes.items
      ≡ map (λ column. held (λ at. get_or l.trail.nodes at None) (column + 1))
      (range_with_len 0 l.column);
}
