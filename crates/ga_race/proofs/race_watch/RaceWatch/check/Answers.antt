use Rattle.std.proofs.Common.{◌∙◌, subst, sym}
use Rattle.ga_race.specs.Shown.{Shows}
use Rattle.ga_race.proofs.Keeping.{check_is, check_none}
use Rattle.ga_race.proofs.Details.{adds_none}
use Rattle.ga_race.proofs.race_watch.RaceWatch.check.Goals as goal

pub returns-in_default-clause-shows : goal.returns-in_default-clause-shows
returns-in_default-clause-shows c = λ w shown.
    subst (Shows c.tick.new.self)
    (check_none w c.args.step.now c.args.count c.args.side c.requires.count c.requires.deed
    (sym c.cell.ensures.number ∙ c.in_default.is)) (c.tick.ensures.shows w shown)

pub returns-clause-shows : goal.returns-clause-shows
returns-clause-shows c = λ w shown.
    subst (Shows c.tick-2.new.self)
    (check_is w c.args.step.now c.args.count c.in-Some.cell c.args.side c.requires.count
    c.requires.deed (sym c.in-Some.ensures.number))
    (c.tick-2.ensures.shows _ (c.join_take.ensures.shows w shown))

pub returns-in_default-clause-adds : goal.returns-in_default-clause-adds
returns-in_default-clause-adds c = λ w shown.
    adds_none w c.args.self.now c.tick.new.self c.args.step.now c.tick.ensures.left
    c.tick.ensures.race

pub returns-clause-adds : goal.returns-clause-adds
returns-clause-adds c = λ w shown.
    adds_none w c.args.self.now c.tick-2.new.self c.args.step.now
    (c.tick-2.ensures.left ∙ c.join_take.ensures.left)
    (c.tick-2.ensures.race ∙ c.join_take.ensures.race)
