use Rattle.std.proofs.Common.{◌≡◌, ◌++◌, string_bytes}
use Rattle.ga_transcript.specs.Live.{before_command}
use Rattle.ga_transcript.specs.Record.{behind_ends}
use Rattle.ga_transcript.proofs.live.push_before.Given as goal

-- what is written, and those of the lines that are left
abbrev pub invariant-loop-line : goal.invariant-loop-line
invariant-loop-line l =
    string_bytes l.text ++ behind_ends (before_command l.left l.line-iterator)
    ≡ string_bytes l.initial.text ++ behind_ends (before_command l.fn.number l.fn.lines)
