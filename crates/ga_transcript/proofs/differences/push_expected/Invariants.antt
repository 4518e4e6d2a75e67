use Rattle.std.proofs.Common.{◌≡◌, ◌+◌, ◌++◌, ◌<◌, ◌^◌, length, string_bytes}
use Rattle.ga_transcript.specs.Compare.{excerpt}
use Rattle.ga_transcript.specs.Following.{wanted}
use Rattle.ga_transcript.specs.inner.Excerpt.{shown_behind}
use Rattle.ga_transcript.proofs.differences.push_expected.Given as goal

-- what is written, and what is shown of the lines that are left
abbrev pub invariant-loop-line : goal.invariant-loop-line
invariant-loop-line l =
    (string_bytes l.report ++ shown_behind 45 l.count (wanted l.line-iterator)
    ≡ string_bytes l.initial.report ++ excerpt 45 (wanted l.fn.lines))
    × (l.count + length l.line-iterator < 2 ^ 64)
