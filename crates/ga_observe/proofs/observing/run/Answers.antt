use Rattle.std.proofs.Common.{◌∙◌, ap, refl, sym}
use Rattle.std.specs.List.{enumerate_from}
use Rattle.std.proofs.Math.ListN.{drop_of_length-le}
use Rattle.ga_chip.specs.Run.{ran, tries_of}
use Rattle.ga_chip.proofs.Turns.{ran_next, tries_next}
use Rattle.ga_observe.proofs.Watched.{tries_end, tries_left, watch_begins, watch_ends, watch_goes_on}
use Rattle.ga_observe.proofs.observing.run.Goals as goal

pub loop-index-init : goal.loop-index-init
loop-index-init g c = record {
  chip = refl;
  seen = watch_begins g.O.Observer.has_seen c.args.observer.now c.args.chip.now
      (enumerate_from 0 (tries_of c.args.tries.now));
}

pub loop-index-preserved : goal.loop-index-preserved
loop-index-preserved g c =
    let what = c.index-tries-index.result in
    record {
      chip = sym (ran_next c.loop-index.chip c.attempt-outcome.new.chip what.node what.side
          c.attempt-outcome.result _ _
          (tries_next c.args.tries.now c.loop-index.index what c.loop-index-test.true
          c.index-tries-index.is) c.attempt-outcome.ensures.chip)
          ∙ c.loop-index.invariant.chip;
      seen = watch_goes_on g.O.Observer.has_seen c.args.observer.now c.loop-index.observer
          c.attempt-outcome.new.observer c.args.chip.now c.loop-index.chip
          c.attempt-outcome.new.chip c.loop-index.index what.node what.side
          c.attempt-outcome.result (enumerate_from 0 (tries_of c.args.tries.now)) _ _
          (tries_left c.args.tries.now c.loop-index.index what c.loop-index-test.true
          c.index-tries-index.is) c.attempt-outcome.ensures.chip c.attempt-outcome.ensures.seen
          c.loop-index.invariant.seen;
    }

pub returns : goal.returns
returns g c = record {
  chip = ap (λ l. ran c.loop-index.chip (tries_of l))
      (sym (drop_of_length-le c.args.tries.now c.loop-index-test.false))
      ∙ c.loop-index.invariant.chip;
  seen = watch_ends g.O.Observer.has_seen c.args.observer.now c.loop-index.observer c.args.chip.now
      c.loop-index.chip (enumerate_from 0 (tries_of c.args.tries.now)) _
      (tries_end c.args.tries.now c.loop-index.index c.loop-index-test.false)
      c.loop-index.invariant.seen;
}
