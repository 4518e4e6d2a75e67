use Rattle.std.proofs.Common.{◌≡◌, ◌++◌, string_bytes}
use Rattle.ga_transcript.specs.Record.{behind_ends}
use Rattle.ga_replays.proofs.sourced.push_behind.Given as goal

-- what is written, and the lines that are left
abbrev pub invariant-loop-line : goal.invariant-loop-line
invariant-loop-line l =
    string_bytes l.text ++ behind_ends l.line-iterator
    ≡ string_bytes l.initial.text ++ behind_ends l.fn.lines
