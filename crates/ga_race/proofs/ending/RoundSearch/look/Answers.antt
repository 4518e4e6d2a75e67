use Rattle.std.proofs.Common.{◌≡◌, ◌%◌, arith, subst, sym}
use Rattle.ga_race.specs.Rounds.{ComesBack}
use Rattle.ga_race.proofs.Returning.{found_back}
use Rattle.ga_race.proofs.ending.RoundSearch.look.Goals as goal

pub returns-then-is_again-clause-search : goal.returns-then-is_again-clause-search
returns-then-is_again-clause-search c = λ start before more is there.
    let search = c.args.self.now in
    let fours : c.args.turns % 4 ≡ 0 = omega arith in
    record {
      legal = is.legal;
      kept = is.kept;
      spins = is.spins;
      few = let few = is.few in omega arith;
      fours = is.fours;
      round = λ free. subst (ComesBack start search.kept_after)
          (sym c.saturating_sub-then-is_again.ensures)
          (found_back start search before c.args.turns c.args.chip.now more fours is there
          (c.is_again.ensures c.if-is_again.true) free);
    }
