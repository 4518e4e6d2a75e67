use Rattle.std.proofs.Common.{◌≡◌, false, length}
use Rattle.ga_expand.specs.inner.Making.{has_list}
use Rattle.ga_expand.specs.inner.Pieces.{left_in}
use Rattle.ga_expand.proofs.node_lists.has_list.Given as goal

abbrev pub invariant-loop-piece : goal.invariant-loop-piece
invariant-loop-piece l = has_list l.behind (left_in l.left) ≡ has_list false (left_in l.pieces)

abbrev pub decreases-loop-piece : goal.decreases-loop-piece
decreases-loop-piece l = length (left_in l.left)
