use Rattle.std.proofs.Common.{subst}
use Rattle.ga_race.specs.Verdict.{EndsRound, IsSo}
use Rattle.ga_law_examples.proofs.rounds.round_of.Goals as goal

pub returns-in-Round-clause-turns : goal.returns-in-Round-clause-turns
returns-in-Round-clause-turns c = λ turns last.
    let chip = c.args.chip.now in
    let so = subst (IsSo chip c.in-Ok.report.turns) c.in-Round.is c.in-Ok.ensures.verdict in
    let ends : EndsRound chip c.in-Ok.report.turns c.in-Round.turns = so.1 c.requires.breaks in
    (c.no_race_round.ensures.round chip ends.first c.in-Round.turns turns c.legal.ensures ends.round
    last).0

pub returns-in-Round-clause-runs : goal.returns-in-Round-clause-runs
returns-in-Round-clause-runs c = λ one two last fed fed'.
    let chip = c.args.chip.now in
    let so = subst (IsSo chip c.in-Ok.report.turns) c.in-Round.is c.in-Ok.ensures.verdict in
    let ends : EndsRound chip c.in-Ok.report.turns c.in-Round.turns = so.1 c.requires.breaks in
    c.no_race_round.ensures.determinate chip ends.first c.in-Round.turns one two c.legal.ensures
    c.requires.breaks ends.round last fed fed'
