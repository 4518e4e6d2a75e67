use Rattle.std.proofs.Common.{◌≡◌, ◌++◌, drop, string_bytes}
use Rattle.std.specs.List.{flat_map}
use Rattle.ga_dump.specs.Ledger.{ledger_dump, side_line}
use Rattle.ga_dump.proofs.ledger.ledger_text.Given as goal

abbrev pub invariant-loop-side : goal.invariant-loop-side
invariant-loop-side l =
    string_bytes l.text ++ flat_map (side_line l.chip l.node) (drop l.side-index l.side-items)
    ≡ ledger_dump l.chip l.node
