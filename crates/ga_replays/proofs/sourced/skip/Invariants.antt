use Rattle.std.proofs.Common.{◌≡◌, drop}
use Rattle.ga_replays.proofs.sourced.skip.Given as goal

-- what is left without those that are still to be left out
abbrev pub invariant-loop-left : goal.invariant-loop-left
invariant-loop-left l = drop l.left l.lines ≡ drop l.count l.initial.lines

abbrev pub decreases-loop-left : goal.decreases-loop-left
decreases-loop-left l = l.left
