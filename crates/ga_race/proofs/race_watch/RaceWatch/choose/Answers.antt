use Rattle.std.proofs.Common.{subst}
use Rattle.ga_race.specs.Shown.{Shows}
use Rattle.ga_race.proofs.Keeping.{sides_left}
use Rattle.ga_race.proofs.Details.{takes_add, takes_both}
use Rattle.ga_race.proofs.race_watch.RaceWatch.choose.Goals as goal

pub returns-clause-shows : goal.returns-clause-shows
returns-clause-shows c = λ w shown.
    let take = c.multiport_take-take in
    subst (Shows c.leave-4.new.self)
    (sides_left w take.result c.args.step.now.node c.args.step.now.number c.args.of c.args.side
    take.ensures.reader take.ensures.number take.ensures.sides take.ensures.taken)
    (c.leave-4.ensures.shows _ (c.leave-3.ensures.shows _ (c.leave-2.ensures.shows _
    (c.leave.ensures.shows w shown))))

pub returns-clause-adds : goal.returns-clause-adds
returns-clause-adds c = λ w shown.
    let take = c.multiport_take-take in
    let one = c.leave.ensures.shows w shown in
    let two = c.leave-2.ensures.shows _ one in
    let three = c.leave-3.ensures.shows _ two in
    takes_add w c.args.self.now c.leave-4.new.self c.args.step.now take.result take.ensures.is
    (takes_both w.words c.args.self.now c.leave-3.new.self c.leave-4.new.self take.result
    (takes_both w.words c.args.self.now c.leave-2.new.self c.leave-3.new.self take.result
    (takes_both w.words c.args.self.now c.leave.new.self c.leave-2.new.self take.result
    (c.leave.ensures.adds w shown) (c.leave-2.ensures.adds _ one))
    (c.leave-3.ensures.adds _ two)) (c.leave-4.ensures.adds _ three))
