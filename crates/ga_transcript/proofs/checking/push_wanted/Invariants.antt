use Rattle.std.proofs.Common.{◌≡◌, ◌++◌, string_bytes}
use Rattle.ga_transcript.specs.Check.{signed}
use Rattle.ga_transcript.specs.Following.{wanted}
use Rattle.ga_transcript.proofs.checking.push_wanted.Given as goal

-- what is written, and the expected ones of the lines that are left
abbrev pub invariant-loop-line : goal.invariant-loop-line
invariant-loop-line l =
    string_bytes l.text ++ signed 45 (wanted l.line-iterator)
    ≡ string_bytes l.initial.text ++ signed 45 (wanted l.fn.lines)
