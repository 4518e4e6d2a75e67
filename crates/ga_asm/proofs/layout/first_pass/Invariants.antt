use Rattle.std.proofs.Common.{◌≡◌, take}
use Rattle.ga_pack.specs.Model.Layout.{names_in}
use Rattle.ga_asm.specs.inner.Layout.{Laying, plain}
use Rattle.ga_asm.proofs.layout.first_pass.Given as goal

abbrev pub invariant-loop-at : goal.invariant-loop-at
invariant-loop-at l =
    Laying (names_in (plain l.items)) (plain (take l.at l.items)) l.layout
    × (l.names.labels.now ≡ l.labels)
