use Rattle.std.proofs.Common.{subst, sym}
use Rattle.ga_race.specs.Shown.{HasSeenFrom}
use Rattle.ga_race.proofs.Reading.{reads_more}
use Rattle.ga_race.proofs.run_watch.RunWatchObserver.see.Goals as goal

pub returns : goal.returns
returns c begun steps from = record {
  races = c.see.ensures begun.races steps
      (subst (λ races. HasSeenFrom begun.races races steps) (sym c.count.ensures.races) from.races);
  reads = reads_more begun.multiport_reads c.args.self.now.multiport_reads
      c.count.new.self.multiport_reads steps c.args.step c.count.ensures.reads from.reads;
}
