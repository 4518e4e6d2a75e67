use Rattle.std.proofs.Common.{◌≡◌, ◌++◌, drop, string_bytes}
use Rattle.std.specs.List.{flat_map}
use Rattle.ga_report.specs.Kind.{KINDS}
use Rattle.ga_report.specs.Rows.{key_item}
use Rattle.ga_report.proofs.rows.push_key_items.Given as goal

-- what is written, and the kinds that are left
abbrev pub invariant-loop-kind : goal.invariant-loop-kind
invariant-loop-kind l =
    string_bytes l.text ++ flat_map key_item (drop l.kind-index l.kind-items)
    ≡ string_bytes l.initial.text ++ flat_map key_item KINDS
