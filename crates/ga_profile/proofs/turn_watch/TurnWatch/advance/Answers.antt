use Rattle.std.proofs.Common.{◌≡◌, ◌+◌, arith, subst, sym}
use Rattle.ga_profile.specs.HasRun.{HasRun}
use Rattle.ga_profile.proofs.turn_watch.TurnWatch.advance.Goals as goal

pub loop-number-preserved : goal.loop-number-preserved
loop-number-preserved c = record {
  known = c.turn.ensures.known;
  run = λ from start has.
      subst (λ n. HasRun from start (n + 1) c.turn.new.chip c.turn.new.self) c.from.ensures
      (c.turn.ensures.run from start
      (subst (λ n. HasRun from start n c.loop-number.chip c.loop-number.self)
      (sym c.from.ensures) (c.loop-number.invariant.run from start has)));
}

pub returns-clause-run : goal.returns-clause-run
returns-clause-run c from start has =
    let all : c.loop-number.number ≡ c.args.end = omega arith in
    subst (λ n. HasRun from start n c.loop-number.chip c.loop-number.self) all
    (c.loop-number.invariant.run from start has)
