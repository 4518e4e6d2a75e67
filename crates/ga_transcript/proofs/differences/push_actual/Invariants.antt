use Rattle.std.proofs.Common.{◌≡◌, ◌+◌, ◌++◌, ◌<◌, ◌^◌, length, string_bytes}
use Rattle.std.specs.Prelude.{map}
use Rattle.ga_transcript.specs.Compare.{excerpt}
use Rattle.ga_transcript.specs.Line.{as_reply}
use Rattle.ga_transcript.specs.Reply.{reply_lines}
use Rattle.ga_transcript.specs.inner.Excerpt.{shown_behind}
use Rattle.ga_transcript.proofs.differences.push_actual.Given as goal

-- what is written, and what is shown of the lines that are left
abbrev pub invariant-loop-line : goal.invariant-loop-line
invariant-loop-line l =
    (string_bytes l.report ++ shown_behind 43 l.count (map as_reply l.line-iterator)
    ≡ string_bytes l.initial.report ++ excerpt 43 (reply_lines l.came))
    × (l.count + length l.line-iterator < 2 ^ 64)
