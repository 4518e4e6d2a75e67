use Rattle.std.proofs.Common.{◌≡◌, ◌++◌, drop}
use Rattle.ga_lint.specs.NodeWarnings.{word_warnings}
use Rattle.ga_lint.specs.inner.NodeText.{node_of}
use Rattle.ga_lint.proofs.node_warnings.push_kinds.Given as goal

-- those that are added, and those of the kinds that are left
abbrev pub invariant-loop-kind : goal.invariant-loop-kind
invariant-loop-kind l =
    l.warnings.items
    ++ word_warnings l.name (node_of l.node) l.address (drop l.kind-index l.kinds)
    ≡ l.initial.warnings.items ++ word_warnings l.name (node_of l.node) l.address l.kinds
