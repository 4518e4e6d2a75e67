use Rattle.std.proofs.Common.{map, take}
use Rattle.ga_asm.specs.inner.Layout.{AreSameNames}
use Rattle.ga_asm.proofs.layout.set_of.Given as goal

abbrev pub invariant-loop-label : goal.invariant-loop-label
invariant-loop-label l =
    AreSameNames (map (λ name. name.bytes) l.set.keys)
    (map (λ name. name.bytes) (take l.label-index l.labels))
