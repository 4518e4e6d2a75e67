use Rattle.std.proofs.Common.{◌≤◌, ◌-◌}
use Rattle.ga_race.specs.inner.Way.{IsOnWay}
use Rattle.ga_race.proofs.TurnLists.{some_turns}
use Rattle.ga_race.proofs.way.way_to.Given as goal

-- the turns so far were made
abbrev pub invariant-loop-turn : goal.invariant-loop-turn
invariant-loop-turn l = record {
  on_way : IsOnWay l.fn.chip l.reader
      (some_turns l.fn.race.take.turn (l.turn - l.fn.race.take.turn)) l.chip l.watch l.way.items;
  few : l.turn - l.fn.race.take.turn ≤ l.last - l.fn.race.take.turn;
}
