use Rattle.std.proofs.Common.{◌≡◌, ◌++◌, drop, string_bytes}
use Rattle.std.specs.List.{flat_map}
use Rattle.ga_report.specs.Kind.{KINDS}
use Rattle.ga_report.specs.Line.{line_of}
use Rattle.ga_report.proofs.line.push_lines.Given as goal

-- what is written, and the paths of the kinds that are left
abbrev pub invariant-loop-kind : goal.invariant-loop-kind
invariant-loop-kind l =
    string_bytes l.text ++ flat_map (line_of l.row) (drop l.kind-index l.kind-items)
    ≡ string_bytes l.initial.text ++ flat_map (line_of l.row) KINDS
