use Rattle.std.proofs.Common.{◌≡◌, ◌++◌, drop, map}
use Rattle.ga_lint.specs.LabelWarnings.{label_warnings}
use Rattle.ga_lint.specs.inner.NodeText.{node_of}
use Rattle.ga_source.specs.Item.{item_of}
use Rattle.ga_lint.proofs.label_warnings.push_labels_at.Given as goal

-- those that are added, and those about the items that are left
abbrev pub invariant-loop-index : goal.invariant-loop-index
invariant-loop-index l =
    l.warnings.items ++ label_warnings l.name (node_of l.node) l.address l.index
    (map item_of (drop l.index l.node.items.now))
    ≡ l.initial.warnings.items
    ++ label_warnings l.name (node_of l.node) l.address 0 (map item_of l.node.items.now)
