use Rattle.std.proofs.Common.{◌≡◌, ◌++◌, string_bytes}
use Rattle.std.specs.Prelude.{map}
use Rattle.ga_transcript.specs.Record.{behind_ends}
use Rattle.ga_replays.specs.Sourced.{line_of_report}
use Rattle.ga_replays.proofs.sourced.Sourced.push_report_lines.Given as goal

-- what is written, and the lines that are left
abbrev pub invariant-loop-line : goal.invariant-loop-line
invariant-loop-line l =
    string_bytes l.text ++ behind_ends (map (line_of_report l.self.count l.name) l.line-iterator)
    ≡ string_bytes l.initial.text
    ++ behind_ends (map (line_of_report l.self.count l.name) l.fn.lines)
