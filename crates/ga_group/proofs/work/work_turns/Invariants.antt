use Rattle.std.proofs.Common.{◌≤◌, ◌*◌, ℕ, get_or}
use Rattle.ga_group.specs.Workers.{sides_of_turns}
use Rattle.ga_group.specs.inner.Tried.{left}
use Rattle.ga_group.specs.inner.Work.{AreKnown, HasWorkedBy}
use Rattle.ga_group.proofs.work.work_turns.Given as goal

-- the turns that are done
abbrev pub invariant-loop-turn : goal.invariant-loop-turn
invariant-loop-turn g l = record {
  worked : HasWorkedBy (left l.until l.turn 0) l.fn.seat l.seat l.fn.parts l.parts
      (sides_of_turns l.turn);
  known : AreKnown l.parts l.looks;
  within : (at : ℕ) → get_or l.until at 0 ≤ l.turns;
  moved : l.moved ≤ l.turn * 144;
}
