use Rattle.std.proofs.Common.{◌≡◌, map, take}
use Rattle.ga_hints.proofs.names.label_names.Given as goal

-- the labels so far
abbrev pub invariant-loop-label : goal.invariant-loop-label
invariant-loop-label l =
    map (λ name. name.now) l.names.items
    ≡ take l.label-index (map (λ label. label.bytes) l.labels)
