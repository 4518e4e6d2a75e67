use Rattle.std.proofs.Common.{◌≡◌, length}
use Rattle.ga_expand.specs.Bodies.{unfolded, unfolded_from}
use Rattle.ga_expand.specs.inner.Bodies.{state_of}
use Rattle.ga_expand.specs.inner.Pieces.{left_in}
use Rattle.ga_expand.proofs.unfolding.unfold.Given as goal

abbrev pub invariant-loop-piece : goal.invariant-loop-piece
invariant-loop-piece l =
    unfolded_from (state_of l.unfolder) (left_in l.left) ≡ unfolded (left_in l.pieces)

abbrev pub decreases-loop-piece : goal.decreases-loop-piece
decreases-loop-piece l = length (left_in l.left)
