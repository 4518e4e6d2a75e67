use Rattle.ga_asm.specs.inner.Layout.{plain}
use Rattle.ga_asm.specs.inner.Making.{Making}
use Rattle.ga_asm.proofs.making.second_pass.Given as goal

abbrev pub invariant-loop-count : goal.invariant-loop-count
invariant-loop-count l = Making (plain l.items) l.layout l.count-index (plain l.rest) l.words.items
