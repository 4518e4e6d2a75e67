use Rattle.std.proofs.Common.{◌≡◌, ◌++◌, drop, length, string_bytes}
use Rattle.std.specs.List.{enumerate_from, flat_map}
use Rattle.std.specs.Str.Lines.{lines}
use Rattle.ga_report.specs.Source.{numbered_pair}
use Rattle.ga_report.proofs.source.push_numbered.Given as goal

-- what is written, and the lines that are left
abbrev pub invariant-loop-index : goal.invariant-loop-index
invariant-loop-index l =
    let all = enumerate_from 0 (lines l.source) in
    string_bytes l.text ++ flat_map numbered_pair (drop (length l.yielded) all)
    ≡ string_bytes l.fn.text ++ flat_map numbered_pair all
