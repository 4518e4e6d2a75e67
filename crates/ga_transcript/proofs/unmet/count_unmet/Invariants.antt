use Rattle.std.proofs.Common.{◌≡◌, ◌+◌, ◌<◌, ◌≤◌, ◌^◌, length}
use Rattle.ga_transcript.specs.Unmet.{unmet_from, unmet_in}
use Rattle.ga_transcript.proofs.unmet.count_unmet.Given as goal

-- those so far, and those of the lines that are left
abbrev pub invariant-loop-line : goal.invariant-loop-line
invariant-loop-line l =
    (l.count + length (unmet_from (l.left.number + 1) l.left.lines) ≡ length (unmet_in l.text))
    × (l.count ≤ l.left.number)
    × (l.left.number + length l.left.lines < 2 ^ 64)

abbrev pub decreases-loop-line : goal.decreases-loop-line
decreases-loop-line l = length l.left.lines
