use Rattle.std.proofs.Common.{◌≡◌, ◌*◌, ◌<◌, ◌≤◌, length}
use Rattle.ga_chip.specs.Run.{moves, ran, turns_of}
use Rattle.ga_observe.specs.Seen.{Sees, steps_seen, turns_numbered}
use Rattle.ga_observe.proofs.Quiet.{Quiet}
use Rattle.ga_observe.proofs.observing.turns.Given as goal

-- the turns so far, and how many of the last had no move
abbrev pub invariant-loop-number : goal.invariant-loop-number
invariant-loop-number g l = record {
  chip : l.chip ≡ ran l.fn.chip (turns_of l.number);
  moved : l.moved ≡ length (moves l.fn.chip (turns_of l.number));
  few : l.moved ≤ 255 * l.number;
  seen : Sees g.O.Observer.has_seen l.fn.observer l.observer
      (steps_seen l.fn.chip (turns_numbered l.number));
  quiet : Quiet l.chip l.number l.quiet;
  unfinished : l.quiet < 4;
}
