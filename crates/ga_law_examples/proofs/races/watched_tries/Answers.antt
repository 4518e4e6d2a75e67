use Rattle.std.proofs.Common.{◌∙◌, [], refl, subst}
use Rattle.ga_chip.specs.Run.{tries_of}
use Rattle.ga_race.specs.Races.{IsAtRest}
use Rattle.ga_law_examples.proofs.Watched.{no_race_in, race_in, said}
use Rattle.ga_law_examples.proofs.races.watched_tries.Goals as goal

pub returns : goal.returns
returns c =
    let chip = c.args.chip.now in
    let tries = c.args.tries.now in
    let legal = c.legal.ensures in
    let seen = c.run.ensures.seen c.in-Ok.watch []
    (record { start = refl; seen = c.in-Ok.ensures.seen }) in
    let says = said chip tries c.run.new.observer c.found.result c.watch.ensures.counted legal
    c.counts_fit.ensures (seen.start ∙ c.in-Ok.ensures.start) c.found.ensures.race seen.seen in
    let none = no_race_in chip tries c.found.result c.watch.ensures.finds legal says in
    record {
      chip = c.run.ensures.chip;
      race = race_in chip tries c.found.result c.watch.ensures.races c.race.ensures.differs
          c.race.ensures.tries legal says;
      none = λ no. c.no_race.ensures.within chip (tries_of tries) legal (none no);
      at_rest = λ no rests. (c.no_race.ensures.at_rest chip (tries_of tries) legal (none no)
          (subst IsAtRest c.run.ensures.chip rests)).0;
    }
