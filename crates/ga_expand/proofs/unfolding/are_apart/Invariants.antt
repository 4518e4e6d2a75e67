use Rattle.std.proofs.Common.{◌≡◌, length}
use Rattle.std.specs.List.{list_all}
use Rattle.ga_expand.specs.inner.Making.{is_apart}
use Rattle.ga_expand.specs.inner.Pieces.{left_in}
use Rattle.ga_expand.proofs.unfolding.are_apart.Given as goal

abbrev pub invariant-loop-piece : goal.invariant-loop-piece
invariant-loop-piece l = list_all is_apart (left_in l.left) ≡ list_all is_apart (left_in l.pieces)

abbrev pub decreases-loop-piece : goal.decreases-loop-piece
decreases-loop-piece l = length (left_in l.left)
