use Rattle.std.proofs.Common.{◌≡◌, ◌++◌, string_bytes}
use Rattle.std.specs.Prelude.{map}
use Rattle.ga_transcript.specs.Check.{signed}
use Rattle.ga_transcript.specs.Line.{as_reply}
use Rattle.ga_transcript.specs.Reply.{reply_lines}
use Rattle.ga_transcript.proofs.checking.push_came.Given as goal

-- what is written, and the lines of the reply that are left
abbrev pub invariant-loop-line : goal.invariant-loop-line
invariant-loop-line l =
    string_bytes l.text ++ signed 43 (map as_reply l.line-iterator)
    ≡ string_bytes l.initial.text ++ signed 43 (reply_lines l.came)
