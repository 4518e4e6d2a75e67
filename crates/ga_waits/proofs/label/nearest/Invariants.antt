use Rattle.std.proofs.Common.{◌≡◌}
use Rattle.ga_asm.specs.Image.{labels_of}
use Rattle.ga_waits.specs.Label as spec
use Rattle.ga_waits.proofs.label.nearest.Given as goal

-- the address is the one found, or among those that are left
abbrev pub invariant-loop-at : goal.invariant-loop-at
invariant-loop-at l =
    spec.nearest_from l.index l.found (labels_of l.at-iterator)
    ≡ spec.nearest (labels_of l.labels.entries) l.index
