use Rattle.ga_observe.proofs.Watched.{TurnWatched}
use Rattle.ga_observe.proofs.observing.turn.Given as goal

abbrev pub invariant-loop-index : goal.invariant-loop-index
invariant-loop-index g l =
    TurnWatched g.O.Observer.has_seen l.fn.observer l.observer l.fn.chip l.chip l.number l.index
    l.moved
