use Rattle.std.proofs.Common.{◌≡◌, ◌+◌, ◌<◌, ◌^◌, length}
use Rattle.ga_transcript.specs.Following.{early_reply}
use Rattle.ga_transcript.proofs.lines.early_reply.Given as goal

-- it rests with the lines that are left
abbrev pub invariant-loop-line : goal.invariant-loop-line
invariant-loop-line l =
    (early_reply (l.left.number + 1) l.left.lines
    ≡ early_reply (l.fn.left.number + 1) l.fn.left.lines)
    × (l.left.number + length l.left.lines < 2 ^ 64)

abbrev pub decreases-loop-line : goal.decreases-loop-line
decreases-loop-line l = length l.left.lines
