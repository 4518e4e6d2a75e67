use Rattle.std.proofs.Common.{◌≡◌, ◌+◌, length}
use Rattle.ga_replays.proofs.sourced.count_of.Given as goal

-- those that were counted, and those that are left
abbrev pub invariant-loop-line : goal.invariant-loop-line
invariant-loop-line l = l.count + length l.lines ≡ length l.fn.lines

abbrev pub decreases-loop-line : goal.decreases-loop-line
decreases-loop-line l = length l.lines
