use Rattle.std.proofs.Common.{◌∙◌, ap, subst, sym}
use Rattle.ga_race.specs.Shown.{Kept, Shows}
use Rattle.ga_race.specs.Watch.{watch_step}
use Rattle.ga_race.proofs.Keeping.{post_is, post_none, posted_adds}
use Rattle.ga_race.proofs.Details.{adds_none}
use Rattle.ga_race.proofs.race_watch.RaceWatch.post.Goals as goal

pub returns-in_default-clause-shows : goal.returns-in_default-clause-shows
returns-in_default-clause-shows c = λ w shown.
    subst (Shows c.tick.new.self)
    (post_none w c.args.step.now c.args.count c.args.word c.args.side c.requires.count
    c.requires.deed (sym c.cell.ensures.number ∙ c.in_default.is)) (c.tick.ensures.shows w shown)

pub returns-clause-shows : goal.returns-clause-shows
returns-clause-shows c = λ w shown.
    subst (λ k. Shows k (watch_step w c.args.step.now)) (sym c.put_posted.ensures)
    (subst (Shows c.put_word.new.self)
    (post_is w c.args.step.now c.args.count c.in-Some.cell c.args.word c.args.side
    c.requires.count c.requires.deed (sym c.in-Some.ensures.number))
    (c.put_word.ensures.shows _ (c.keep_post.ensures.shows _
    (c.look_back.ensures.shows _ (c.tick.ensures.shows w shown)))))

pub returns-in_default-clause-adds : goal.returns-in_default-clause-adds
returns-in_default-clause-adds c = λ w shown.
    adds_none w c.args.self.now c.tick.new.self c.args.step.now c.tick.ensures.left
    c.tick.ensures.race

pub returns-clause-adds : goal.returns-clause-adds
returns-clause-adds c = λ w shown.
    posted_adds w c.args.self.now c.tick.new.self c.look_back.new.self c.put_posted.new.self
    c.args.step.now c.args.count c.in-Some.cell c.args.word c.args.side c.post_at-post.result
    c.post_at-post.ensures c.requires.count
    c.requires.deed (sym c.in-Some.ensures.number) c.tick.ensures.left c.tick.ensures.race
    c.look_back.ensures.left (c.look_back.ensures.race _ (c.tick.ensures.shows w shown))
    (ap (λ (k : Kept). k.left) c.put_posted.ensures ∙ c.put_word.ensures.left
    ∙ c.keep_post.ensures.left)
    (ap (λ (k : Kept). k.race) c.put_posted.ensures ∙ c.put_word.ensures.race
    ∙ c.keep_post.ensures.race)
