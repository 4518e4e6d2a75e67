use Rattle.std.proofs.Common.{◌≡◌, ◌++◌, map}
use Rattle.std.specs.List.{range_with_len}
use Rattle.ga_report.specs.Timeline.{most_at}
use Rattle.ga_report.proofs.timeline.push_column.Given as goal

-- the kinds of as many nodes are added
abbrev pub invariant-loop-index : goal.invariant-loop-index
invariant-loop-index l =
    l.kinds.items
    ≡ l.initial.kinds.items ++ map (most_at l.before l.after l.turns) (range_with_len 0 l.index)
