use Rattle.std.proofs.Common.{◌∙◌}
use Rattle.ga_race.proofs.Keeping.{counted_last, seen_next}
use Rattle.ga_race.proofs.race_watch.RaceWatchObserver.see.Goals as goal

pub returns-in-Some : goal.returns-in-Some
returns-in-Some c = λ begun steps from. record {
  start = c.note.ensures.start ∙ from.start;
  seen = seen_next c.args.self.now c.note.new.self steps c.args.step c.note.ensures.shows
      c.note.ensures.adds c.note.ensures.start from.seen;
}

pub returns-in_default : goal.returns-in_default
returns-in_default c = λ begun steps from. record {
  start = from.start;
  seen = λ counted. absurd (c.in_default.ensures (counted_last steps c.args.step counted));
}
