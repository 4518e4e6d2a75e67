use Rattle.std.proofs.Common.{subst, sym}
use Rattle.ga_race.specs.Verdict.{IsSo}
use Rattle.ga_law_examples.specs.Races.{IsSettled}
use Rattle.ga_law_examples.proofs.Settled.{settled}
use Rattle.ga_law_examples.proofs.races.settled_top.Goals as goal

pub returns-in-AtRest : goal.returns-in-AtRest
returns-in-AtRest c =
    let chip = c.args.chip.now in
    let report = c.in-Ok.report in
    let rests = subst (IsSo chip report.turns) c.in-AtRest.is c.in-Ok.ensures.verdict in
    subst (IsSettled chip c.race.new.chip c.args.node) (sym c.t.ensures)
    (settled chip c.race.new.chip c.args.node report.turns c.in-AtRest.spins c.state.result.now
    c.runs.ensures.unfed c.in-Ok.ensures.chip (rests.1 c.requires.breaks) c.state.ensures)
