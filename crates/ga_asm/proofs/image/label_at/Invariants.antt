use Rattle.std.proofs.Common.{◌≡◌}
use Rattle.ga_asm.specs.Image as spec
use Rattle.ga_asm.specs.Image.{labels_of}
use Rattle.ga_asm.proofs.image.label_at.Given as goal

-- the label is among those that are left
abbrev pub invariant-loop-name : goal.invariant-loop-name
invariant-loop-name l =
    spec.label_at (labels_of l.name-iterator) l.address
    ≡ spec.label_at (labels_of l.labels.entries) l.address
