use Rattle.std.proofs.Common.{◌≡◌, drop, map}
use Rattle.ga_lint.specs.Reaching as spec
use Rattle.ga_source.specs.Item.{item_of}
use Rattle.ga_lint.proofs.reaching.is_used.Given as goal

-- no item so far uses it
abbrev pub invariant-loop-item : goal.invariant-loop-item
invariant-loop-item l =
    spec.is_used (map item_of (drop l.item-index l.items)) l.name
    ≡ spec.is_used (map item_of l.items) l.name
