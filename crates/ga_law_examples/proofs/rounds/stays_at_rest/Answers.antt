use Rattle.std.proofs.Common.{◌≡◌, ◌≤◌, [], arith, subst, sym}
use Rattle.ga_chip.specs.Run.{tries_of}
use Rattle.ga_race.specs.Clocks.{steps_in}
use Rattle.ga_race.specs.Spins.{IsRestOrSpins}
use Rattle.ga_race.specs.Verdict.{IsSo}
use Rattle.ga_law_examples.proofs.Settled.{few_fed, no_race_yet}
use Rattle.ga_law_examples.proofs.rounds.stays_at_rest.Goals as goal

pub returns-in-AtRest : goal.returns-in-AtRest
returns-in-AtRest c is_so = λ tries node rests.
    let last = c.race.new.chip in
    let so = subst (IsSo c.args.chip.now c.in-Ok.report.turns) c.in-AtRest.is
    c.in-Ok.ensures.verdict in
    let rest : IsRestOrSpins last =
    subst IsRestOrSpins (sym c.in-Ok.ensures.chip) (so.1 c.requires.breaks).rest in
    let few : steps_in last (tries_of tries) node ≤ 0 =
    (c.no_race_spinning.ensures.spinning last [] c.legal.ensures (no_race_yet last) rest).1
    (tries_of tries) (few_fed c.runs.ensures.unfed last tries []) node rests in
    omega arith
