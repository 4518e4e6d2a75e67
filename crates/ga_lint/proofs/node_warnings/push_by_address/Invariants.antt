use Rattle.std.proofs.Common.{◌≡◌, ◌++◌}
use Rattle.std.specs.List.{flat_map, range_with_len}
use Rattle.ga_lint.specs.LabelWarnings.{unused_labels}
use Rattle.ga_lint.specs.NodeWarnings.{word_kinds, word_warnings}
use Rattle.ga_lint.specs.inner.NodeText.{node_of}
use Rattle.ga_lint.proofs.node_warnings.push_by_address.Given as goal

-- those about the words so far are added
abbrev pub invariant-loop-address : goal.invariant-loop-address
invariant-loop-address l =
    l.warnings.items ≡ l.initial.warnings.items
    ++ flat_map (λ address. unused_labels l.name (node_of l.node) address
    ++ word_warnings l.name (node_of l.node) address word_kinds) (range_with_len 0 l.address)
