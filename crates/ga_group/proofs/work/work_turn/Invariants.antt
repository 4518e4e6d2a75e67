use Rattle.std.proofs.Common.{◌≡◌, ◌+◌, ◌≤◌, ℕ, [], ◌∷◌, get_or, length, take}
use Rattle.ga_chip.specs.Run.{side_of_turn}
use Rattle.ga_group.specs.inner.Tried.{left, steps_in, sum_from}
use Rattle.ga_group.specs.inner.Work.{AreAheadBy, AreKnown, HaveGained, names_of}
use Rattle.ga_group.proofs.work.work_turn.Given as goal

-- the nodes before have been tried, and the others not yet
abbrev pub invariant-loop-index : goal.invariant-loop-index
invariant-loop-index l = record {
  table : l.seat.table ≡ l.fn.seat.table;
  names : names_of l.parts ≡ names_of l.fn.parts;
  lent : AreAheadBy (left l.until l.turn l.index) l.parts l.seat.nodes;
  gained : HaveGained l.fn.seat.nodes l.seat.nodes (take l.index (names_of l.fn.parts))
      (side_of_turn l.turn ∷ []);
  known : AreKnown l.parts l.looks;
  within : (at : ℕ) → get_or l.until at 0 ≤ l.end;
  moved : steps_in l.parts + sum_from (left l.fn.until l.turn 0) 0 (length l.fn.parts)
      ≡ steps_in l.fn.parts + l.moved
      + sum_from (left l.until l.turn l.index) 0 (length l.fn.parts);
  few : l.moved ≤ l.index;
}
