use Rattle.std.proofs.Common.{◌≡◌, ◌++◌, string_bytes}
use Rattle.ga_input.specs.Session.{ended_lines}
use Rattle.ga_input.proofs.session.push_lines.Given as goal

-- what is written, and the lines that are left
abbrev pub invariant-loop-line : goal.invariant-loop-line
invariant-loop-line l =
    string_bytes l.text ++ ended_lines l.line-iterator
    ≡ string_bytes l.initial.text ++ ended_lines l.fn.lines
