use Rattle.std.proofs.Common.{◌≡◌, ◌++◌, length, string_bytes}
use Rattle.ga_transcript.specs.Following.{recorded}
use Rattle.ga_transcript.specs.Record.{behind_ends}
use Rattle.ga_transcript.specs.Reply.{step_of}
use Rattle.ga_transcript.proofs.recording.push_recorded.Given as goal

-- what is written, and what is recorded of the lines that are left
abbrev pub invariant-loop-lines : goal.invariant-loop-lines
invariant-loop-lines l =
    string_bytes l.text ++ behind_ends (recorded (step_of l.program) l.chip l.lines)
    ≡ string_bytes l.initial.text
    ++ behind_ends (recorded (step_of l.program) l.program.start l.fn.lines)

abbrev pub decreases-loop-lines : goal.decreases-loop-lines
decreases-loop-lines l = length l.lines
