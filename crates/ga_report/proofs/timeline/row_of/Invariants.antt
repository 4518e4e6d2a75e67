use Rattle.std.proofs.Common.{◌≡◌, ◌+◌, ◌*◌, get_or, map}
use Rattle.std.specs.List.{range_with_len}
use Rattle.ga_report.specs.declared.kind.Kind.TheVariants.{Idle}
use Rattle.ga_report.proofs.timeline.row_of.Given as goal

-- what the node does in as many columns
abbrev pub invariant-loop-column : goal.invariant-loop-column
invariant-loop-column l =
    l.row.items
    ≡ map (λ column. get_or l.timeline.kinds.items (column * 144 + l.index) Idle)
    (range_with_len 0 l.column)
