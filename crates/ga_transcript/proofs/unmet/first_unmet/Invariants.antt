use Rattle.std.proofs.Common.{◌≡◌, ◌+◌, ◌<◌, ◌^◌, length}
use Rattle.ga_transcript.specs.Unmet.{unmet_from, unmet_in}
use Rattle.ga_transcript.proofs.unmet.first_unmet.Given as goal

-- none came so far
abbrev pub invariant-loop-line : goal.invariant-loop-line
invariant-loop-line l =
    (unmet_from (l.left.number + 1) l.left.lines ≡ unmet_in l.text)
    × (l.left.number + length l.left.lines < 2 ^ 64)

abbrev pub decreases-loop-line : goal.decreases-loop-line
decreases-loop-line l = length l.left.lines
