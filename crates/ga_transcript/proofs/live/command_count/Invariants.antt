use Rattle.std.proofs.Common.{◌≡◌, ◌+◌, ◌<◌, ◌^◌, length}
use Rattle.ga_transcript.specs.Live.{command_count}
use Rattle.ga_transcript.proofs.live.command_count.Given as goal

-- the commands so far, and those of the lines that are left
abbrev pub invariant-loop-line : goal.invariant-loop-line
invariant-loop-line l =
    (l.count + command_count l.line-iterator ≡ command_count l.fn.lines)
    × (l.count + length l.line-iterator < 2 ^ 64)
