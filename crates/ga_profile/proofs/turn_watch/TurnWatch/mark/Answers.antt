use Rattle.std.proofs.Common.{arith}
use Rattle.ga_profile.proofs.Keeping.{flags_more}
use Rattle.ga_profile.proofs.turn_watch.TurnWatch.mark.Goals as goal

pub loop-index-preserved : goal.loop-index-preserved
loop-index-preserved c = record {
  known = c.spins.ensures.watch;
  from = c.loop-index.invariant.from;
  nodes = c.loop-index.invariant.nodes;
  each = flags_more c.args.chip.now c.loop-index.self.spinning c.loop-index.index c.spins.result
      c.loop-index-test.true c.loop-index.self.flags c.spins.ensures.value
      c.loop-index.invariant.each;
}

pub returns-clause-each : goal.returns-clause-each
returns-clause-each c index below =
    c.loop-index.invariant.each index (omega (arith, below, c.loop-index-test.false))
