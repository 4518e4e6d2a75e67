use Rattle.std.proofs.Common.{◌≡◌, ◌+◌, ◌<◌, ◌^◌, length}
use Rattle.ga_transcript.specs.Unmet.{unmet_behind_go, unmet_in}
use Rattle.ga_transcript.proofs.unmet.lines_behind_go.Given as goal

-- no line was `go` so far
abbrev pub invariant-loop-line : goal.invariant-loop-line
invariant-loop-line l =
    (unmet_behind_go (l.left.number + 1) l.left.lines ≡ unmet_in l.text)
    × (l.left.number + length l.left.lines < 2 ^ 64)

abbrev pub decreases-loop-line : goal.decreases-loop-line
decreases-loop-line l = length l.left.lines
