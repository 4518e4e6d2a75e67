use Rattle.std.proofs.Common.{◌≡◌, drop}
use Rattle.std.specs.List.{enumerate_from}
use Rattle.ga_chip.specs.Run.{ran, tries_of}
use Rattle.ga_observe.proofs.Watched.{Watched}
use Rattle.ga_observe.proofs.observing.run.Given as goal

-- the tries that are left lead to the end
abbrev pub invariant-loop-index : goal.invariant-loop-index
invariant-loop-index g l = record {
  chip : ran l.chip (tries_of (drop l.index l.tries)) ≡ ran l.fn.chip (tries_of l.tries);
  seen : Watched g.O.Observer.has_seen l.fn.observer l.observer l.fn.chip l.chip
      (enumerate_from 0 (tries_of l.tries))
      (enumerate_from l.index (tries_of (drop l.index l.tries)));
}
