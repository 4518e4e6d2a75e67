-- What a watch over a run has seen: its races, and how many multiport reads took a word.
use Rattle.std.specs.Prelude.{◌≡◌, ◌+◌, ◌-◌, ◌^◌, List, min}
use Rattle.ga_observe.specs.declared.step.Step.{Step}
use Rattle.ga_race.specs.Reads.{multiport_takes}
use Rattle.ga_race.specs.Shown.{HasSeenFrom}
use Rattle.ga_race.specs.declared.run_watch.RunWatch.{RunWatch}

-- The watch began as another one, and has then seen these steps. Its count stays at the largest
-- number of 64 bits.
pub record HasWatched (begun watch : RunWatch) (steps : List Step) : Type 0 where
  pub races : HasSeenFrom begun.races watch.races steps
  pub reads : watch.multiport_reads
      ≡ min (begun.multiport_reads + multiport_takes steps) (2 ^ 64 - 1)
