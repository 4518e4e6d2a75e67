use Rattle.std.proofs.Common.{◌≡◌, ◌+◌, ◌≤◌, length}
use Rattle.std.specs.Prelude.{map}
use Rattle.ga_transcript.specs.Following.{same_lines, wanted}
use Rattle.ga_transcript.specs.Line.{as_reply}
use Rattle.ga_transcript.specs.inner.Next.{next_command}
use Rattle.ga_transcript.proofs.lines.next_command.Given as goal

-- it rests with the lines that are left
abbrev pub invariant-loop-line : goal.invariant-loop-line
invariant-loop-line l =
    (same_lines (wanted l.left.lines) (map as_reply l.reply)
    ≡ same_lines (wanted l.initial.left.lines) (map as_reply l.initial.reply))
    × (next_command (l.left.number + 1) l.left.lines
    ≡ next_command (l.initial.left.number + 1) l.initial.left.lines)
    × (length l.left.lines ≤ length l.initial.left.lines)
    × (l.left.number + length l.left.lines ≡ l.initial.left.number + length l.initial.left.lines)

abbrev pub decreases-loop-line : goal.decreases-loop-line
decreases-loop-line l = length l.left.lines
