use Rattle.std.proofs.Common.{arith, refl}
use Rattle.ga_chip.specs.Run.{turns_of}
use Rattle.ga_race.proofs.ending.RoundSearch.new.Goals as goal

pub returns : goal.returns
unfolding turns_of
returns c = record {
  legal = c.legal.ensures;
  kept = c.in_ok-new.ensures.chip;
  spins = c.in_ok-new.ensures.spins;
  few = omega arith;
  fours = refl;
  round = λ free. tt;
}
