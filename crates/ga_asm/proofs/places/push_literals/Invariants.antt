use Rattle.std.proofs.Common.{◌≡◌, ◌+◌, ◌++◌, drop}
use Rattle.ga_asm.specs.Places.{literal_indices}
use Rattle.ga_asm.specs.inner.Layout.{plain}
use Rattle.ga_asm.proofs.places.push_literals.Given as goal

abbrev pub invariant-loop-index : goal.invariant-loop-index
invariant-loop-index l =
    l.indices.items ++ literal_indices (l.at + l.index) (plain (drop l.index l.items))
    ≡ l.initial.indices.items ++ literal_indices l.at (plain l.items)
