use Rattle.std.proofs.Common.{◌∙◌, subst, sym}
use Rattle.ga_race.specs.Shown.{Shows}
use Rattle.ga_race.proofs.Keeping.{take_is, take_none}
use Rattle.ga_race.proofs.Details.{adds_more}
use Rattle.ga_race.proofs.race_watch.RaceWatch.take.Goals as goal

pub returns-in_default-clause-shows : goal.returns-in_default-clause-shows
returns-in_default-clause-shows c = λ w shown.
    subst (Shows c.tick.new.self)
    (take_none w c.args.step.now c.args.count c.args.word c.args.side c.args.of c.requires.count
    c.requires.deed (sym c.read.ensures ∙ c.in_default.is))
    (c.tick.ensures.shows _ (c.choose.ensures.shows w shown))

pub returns-clause-shows : goal.returns-clause-shows
returns-clause-shows c = λ w shown.
    subst (Shows c.put_word.new.self)
    (take_is w c.args.step.now c.args.count c.in-Some.cell c.args.word c.args.side c.args.of
    c.requires.count c.requires.deed (sym c.read.ensures ∙ c.in-Some.is))
    (c.put_word.ensures.shows _ (c.keep_take.ensures.shows _ (c.tick-2.ensures.shows _
    (c.join_post.ensures.shows _ (c.choose.ensures.shows w shown)))))

pub returns-in_default-clause-adds : goal.returns-in_default-clause-adds
returns-in_default-clause-adds c = λ w shown.
    adds_more w c.args.self.now c.choose.new.self c.tick.new.self c.args.step.now
    (c.choose.ensures.adds w shown) c.tick.ensures.left c.tick.ensures.race

pub returns-clause-adds : goal.returns-clause-adds
returns-clause-adds c = λ w shown.
    adds_more w c.args.self.now c.choose.new.self c.put_word.new.self c.args.step.now
    (c.choose.ensures.adds w shown)
    (c.put_word.ensures.left ∙ c.keep_take.ensures.left ∙ c.tick-2.ensures.left
    ∙ c.join_post.ensures.left)
    (c.put_word.ensures.race ∙ c.keep_take.ensures.race ∙ c.tick-2.ensures.race
    ∙ c.join_post.ensures.race)
