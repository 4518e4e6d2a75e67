use Rattle.std.proofs.Common.{subst}
use Rattle.ga_race.specs.Shown.{Shows}
use Rattle.ga_race.proofs.Keeping.{input_is, own_is}
use Rattle.ga_race.proofs.Details.{adds_none}
use Rattle.ga_race.proofs.race_watch.RaceWatch.act.Goals as goal

pub returns-in-Own-clause-shows : goal.returns-in-Own-clause-shows
returns-in-Own-clause-shows c = λ w shown.
    subst (Shows c.tick.new.self)
    (own_is w c.args.step.now c.args.count c.requires c.in-Own.is) (c.tick.ensures.shows w shown)

pub returns-in-TookInput-clause-shows : goal.returns-in-TookInput-clause-shows
returns-in-TookInput-clause-shows c = λ w shown.
    subst (Shows c.tick-in-TookInput.new.self)
    (input_is w c.args.step.now c.args.count c.in-TookInput.field-0 c.requires c.in-TookInput.is)
    (c.tick-in-TookInput.ensures.shows w shown)

pub returns-in-Own-clause-adds : goal.returns-in-Own-clause-adds
returns-in-Own-clause-adds c = λ w shown.
    adds_none w c.args.self.now c.tick.new.self c.args.step.now c.tick.ensures.left
    c.tick.ensures.race

pub returns-in-TookInput-clause-adds : goal.returns-in-TookInput-clause-adds
returns-in-TookInput-clause-adds c = λ w shown.
    adds_none w c.args.self.now c.tick-in-TookInput.new.self c.args.step.now
    c.tick-in-TookInput.ensures.left c.tick-in-TookInput.ensures.race
