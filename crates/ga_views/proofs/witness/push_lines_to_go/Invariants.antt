use Rattle.std.proofs.Common.{◌≡◌, ◌++◌, string_bytes}
use Rattle.ga_views.specs.Witness.{lines_to_go}
use Rattle.ga_views.proofs.witness.push_lines_to_go.Given as goal

-- what is written, and the lines that are left
abbrev pub invariant-loop-line : goal.invariant-loop-line
invariant-loop-line l =
    string_bytes l.text ++ lines_to_go l.line-iterator
    ≡ string_bytes l.initial.text ++ lines_to_go l.fn.lines
