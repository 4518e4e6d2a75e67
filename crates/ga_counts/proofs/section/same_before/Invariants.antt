use Rattle.std.proofs.Common.{◌≡◌}
use Rattle.ga_counts.specs.Listing as spec
use Rattle.ga_counts.proofs.section.same_before.Given as goal

-- the node is among the images that are left
abbrev pub invariant-loop-other : goal.invariant-loop-other
invariant-loop-other l =
    spec.same_before l.other-iterator l.node l.image
    ≡ spec.same_before l.images.entries l.node l.image
