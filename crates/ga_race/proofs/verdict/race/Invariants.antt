use Rattle.std.proofs.Common.{◌≡◌, ◌*◌, ◌≤◌, None, length}
use Rattle.ga_chip.specs.Run.{moves, ran, turns_of}
use Rattle.ga_observe.specs.Seen.{steps_seen, turns_numbered}
use Rattle.ga_race.specs.inner.Ending.{IsSearch}
use Rattle.ga_race.specs.inner.Watched.{HasWatched}
use Rattle.ga_race.proofs.verdict.race.Given as goal

-- the turns so far had no race, and the watch has seen their steps
abbrev pub invariant-loop-number : goal.invariant-loop-number
invariant-loop-number l = record {
  chip : l.chip ≡ ran l.fn.chip (turns_of l.number);
  steps : l.steps ≡ length (moves l.fn.chip (turns_of l.number));
  few : l.steps ≤ 255 * l.number;
  seen : HasWatched l.initial.watch l.watch (steps_seen l.fn.chip (turns_numbered l.number));
  quiet : l.watch.races.race ≡ None;
  search : IsSearch l.fn.chip l.search l.number;
}
