use Rattle.std.proofs.Common.{◌≡◌}
use Rattle.ga_transcript.specs.Live.{state_behind}
use Rattle.ga_transcript.specs.Reply.{step_of}
use Rattle.ga_transcript.proofs.live.chip_behind.Given as goal

-- what the lines that are left lead to
abbrev pub invariant-loop-line : goal.invariant-loop-line
invariant-loop-line l =
    state_behind (step_of l.program) l.chip l.line-iterator
    ≡ state_behind (step_of l.program) l.program.start l.fn.lines
