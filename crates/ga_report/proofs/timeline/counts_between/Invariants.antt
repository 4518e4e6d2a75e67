use Rattle.std.proofs.Common.{◌≡◌, map}
use Rattle.std.specs.List.{range_with_len}
use Rattle.ga_report.specs.Timeline.{counts_at}
use Rattle.ga_report.proofs.timeline.counts_between.Given as goal

-- the counts of as many nodes
abbrev pub invariant-loop-index : goal.invariant-loop-index
invariant-loop-index l =
    l.counts.items ≡ map (counts_at l.before l.after) (range_with_len 0 l.index)
