use Rattle.std.proofs.Common.{subst}
use Rattle.ga_chip.specs.Run.{tries_of}
use Rattle.ga_chip.specs.Legal.{IsLegal}
use Rattle.ga_law_examples.specs.Spinning.{spinning_chip}
use Rattle.ga_law_examples.proofs.SpinningRun.{spinning_names_none}
use Rattle.ga_law_examples.proofs.rounds.spinning_tries.Goals as goal

pub returns-clause-agree : goal.returns-clause-agree
returns-clause-agree c =
    let events = tries_of c.args.tries.now in
    c.no_race.ensures.within spinning_chip events
    (subst IsLegal c.in_ok-chip.ensures c.legal.ensures)
    (c.no_choice.ensures spinning_chip events
    (spinning_names_none c.one_port.ensures c.args.tries.now))
