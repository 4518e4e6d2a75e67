use Rattle.std.proofs.Common.{◌≡◌, ◌+◌, ◌++◌, drop, length}
use Rattle.ga_asm.specs.Places as spec
use Rattle.ga_asm.specs.inner.Layout.{plain}
use Rattle.ga_asm.proofs.places.first_items.Given as goal

abbrev pub invariant-loop-count : goal.invariant-loop-count
invariant-loop-count l =
    (l.at + length l.rest ≡ length l.items)
    × (l.indices.items ++ spec.first_items l.at (drop l.count-index l.counts) (plain l.rest)
    ≡ spec.first_items 0 l.counts (plain l.items))
