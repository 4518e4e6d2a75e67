use Rattle.std.proofs.Common.{◌≡◌, ◌++◌, drop, string_bytes}
use Rattle.std.specs.List.{flat_map}
use Rattle.ga_report.specs.TransferLines.{line_if}
use Rattle.ga_report.proofs.transfer_lines.push_lines.Given as goal

-- what is written, and the lines of the words that are left
abbrev pub invariant-loop-transfer : goal.invariant-loop-transfer
invariant-loop-transfer l =
    string_bytes l.text
    ++ flat_map (line_if l.nodes l.first) (drop l.transfer-index l.transfers)
    ≡ string_bytes l.initial.text ++ flat_map (line_if l.nodes l.first) l.transfers
