use Rattle.std.proofs.Common.{◌≡◌, ◌+◌, ◌<◌, ◌^◌, length, string_bytes}
use Rattle.ga_transcript.specs.Check.{checked_by}
use Rattle.ga_transcript.specs.Following.{checked}
use Rattle.ga_transcript.specs.Reply.{reply_lines, step_of}
use Rattle.ga_transcript.specs.inner.Next.{checked_behind}
use Rattle.ga_transcript.proofs.checking.follow.Given as goal

-- it rests with the lines that are left, and the last reply
abbrev pub invariant-loop-next : goal.invariant-loop-next
invariant-loop-next l =
    (checked_by (checked_behind (step_of l.program) l.left.number l.count l.chip l.left.lines
    (reply_lines (string_bytes l.came)))
    ≡ checked_by (checked (step_of l.program) (l.fn.left.number + 1) 0 l.program.start
    l.fn.left.lines))
    × (l.left.number + length l.left.lines < 2 ^ 64)
    × (l.count + length l.left.lines < 2 ^ 64)

abbrev pub decreases-loop-next : goal.decreases-loop-next
decreases-loop-next l = length l.left.lines
