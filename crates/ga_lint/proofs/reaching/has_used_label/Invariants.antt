use Rattle.std.proofs.Common.{◌≡◌, map}
use Rattle.std.specs.Prelude.{◌==◌, ◌&&◌}
use Rattle.std.specs.List.{list_any}
use Rattle.ga_asm.specs.Image.{labels_of}
use Rattle.ga_lint.specs.Reaching as spec
use Rattle.ga_source.specs.Item.{item_of}
use Rattle.ga_lint.proofs.reaching.has_used_label.Given as goal

-- no label so far is used
abbrev pub invariant-loop-name : goal.invariant-loop-name
invariant-loop-name l =
    list_any (λ label. (label.1 == l.address) && spec.is_used (map item_of l.items) label.0)
    (labels_of l.name-iterator)
    ≡ list_any (λ label. (label.1 == l.address) && spec.is_used (map item_of l.items) label.0)
    (labels_of l.labels.entries)
