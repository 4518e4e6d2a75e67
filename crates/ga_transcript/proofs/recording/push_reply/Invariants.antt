use Rattle.std.proofs.Common.{◌≡◌, ◌++◌, string_bytes}
use Rattle.std.specs.Prelude.{map}
use Rattle.ga_transcript.specs.Line.{as_reply}
use Rattle.ga_transcript.specs.Record.{behind_ends}
use Rattle.ga_transcript.specs.Reply.{reply_lines}
use Rattle.ga_transcript.proofs.recording.push_reply.Given as goal

-- what is written, and the lines of the reply that are left
abbrev pub invariant-loop-line : goal.invariant-loop-line
invariant-loop-line l =
    string_bytes l.text ++ behind_ends (map as_reply l.line-iterator) ≡ string_bytes l.initial.text
    ++ behind_ends (reply_lines l.came)
