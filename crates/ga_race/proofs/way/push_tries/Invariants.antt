use Rattle.std.proofs.Common.{◌++◌, List, take}
use Rattle.ga_chip.specs.Chip.{Chip}
use Rattle.ga_chip.specs.Run.{Event, side_of_turn, turn_of}
use Rattle.ga_race.specs.inner.Way.{IsOnWay}
use Rattle.ga_race.proofs.way.push_tries.Given as goal

-- the tries of the turn so far were made
abbrev pub invariant-loop-index : goal.invariant-loop-index
invariant-loop-index l =
    (start : Chip) (done : List Event)
    → IsOnWay start l.reader done l.fn.chip l.fn.watch l.fn.way.items
    → IsOnWay start l.reader (done ++ take l.index (turn_of (side_of_turn l.turn))) l.chip l.watch
    l.way.items
