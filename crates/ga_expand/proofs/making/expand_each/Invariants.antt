use Rattle.std.proofs.Common.{length}
use Rattle.ga_expand.specs.inner.Pieces.{left_in}
use Rattle.ga_expand.specs.inner.Scope.{Progress}
use Rattle.ga_expand.proofs.making.expand_each.Given as goal

abbrev pub invariant-loop-piece : goal.invariant-loop-piece
invariant-loop-piece l = Progress (left_in l.pieces) l.expander (left_in l.left)

abbrev pub decreases-loop-piece : goal.decreases-loop-piece
decreases-loop-piece l = length (left_in l.left)
