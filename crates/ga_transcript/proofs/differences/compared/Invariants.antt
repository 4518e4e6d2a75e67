use Rattle.std.proofs.Common.{◌≡◌, ◌+◌, ◌++◌, ◌<◌, ◌≤◌, ◌^◌, List, length}
use Rattle.ga_transcript.specs.Compare.{comparison_of, comparison_view}
use Rattle.ga_transcript.specs.Following.{Compared, compared}
use Rattle.ga_transcript.specs.Reply.{step_of}
use Rattle.ga_transcript.proofs.differences.compared.Given as goal

-- the commands that were compared, and those of the lines that are left
abbrev pub invariant-loop-left : goal.invariant-loop-left
invariant-loop-left l =
    ((done : List Compared) × (comparison_view l.found ≡ comparison_of l.name done)
    × (done ++ compared (step_of l.program) (l.left.number + 1) l.chip l.left.lines
    ≡ compared (step_of l.program) (l.fn.left.number + 1) l.program.start l.fn.left.lines))
    × (l.left.number + length l.left.lines < 2 ^ 64)
    × (l.found.commands ≤ l.left.number)
    × (l.found.differences ≤ l.found.commands)

abbrev pub decreases-loop-left : goal.decreases-loop-left
decreases-loop-left l = length l.left.lines
