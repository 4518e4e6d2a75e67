use Rattle.std.proofs.Common.{◌≡◌, Ok, length}
use Rattle.ga_expand.specs.NodeLists.{spread, spread_from}
use Rattle.ga_expand.specs.inner.NodeLists.{spreading_of}
use Rattle.ga_expand.specs.inner.Pieces.{left_in}
use Rattle.ga_expand.proofs.node_lists.spread.Given as goal

abbrev pub invariant-loop-piece : goal.invariant-loop-piece
invariant-loop-piece l =
    spread_from (spreading_of l.spreader) (left_in l.left) ≡ spread (Ok (left_in l.pieces))

abbrev pub decreases-loop-piece : goal.decreases-loop-piece
decreases-loop-piece l = length (left_in l.left)
