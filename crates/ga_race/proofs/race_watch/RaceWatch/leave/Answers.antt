use Rattle.std.proofs.Common.{◌+◌, ◌∙◌, Some, ap, subst, sym}
use Rattle.std.specs.Prelude.{is_some, unwrap_or}
use Rattle.ga_place.specs.Side.{neighbour_of}
use Rattle.ga_race.specs.Found.{LeavesAt}
use Rattle.ga_race.specs.Shown.{Shows}
use Rattle.ga_race.proofs.Keeping.{left_empty, left_word, not_some}
use Rattle.ga_race.proofs.Details.{found_adds, left_adds, takes_both}
use Rattle.ga_race.proofs.race_watch.RaceWatch.leave.Goals as goal

pub returns-in-Some-pending-clause-shows : goal.returns-in-Some-pending-clause-shows
returns-in-Some-pending-clause-shows c = λ w shown.
    let left = c.put_left.ensures.shows w shown in
    subst (Shows c.find.new.self)
    (left_word w c.args.take.now.reader (c.args.take.now.number + 1) c.in-Some.cell
    c.args.take.now.sides c.args.take.now.taken.side c.args.side
    (sym c.is_left.ensures ∙ c.if-not-is_left.false) (sym c.read.ensures ∙ c.in-Some.is)
    (ap is_some (sym (c.pending.ensures _ left) ∙ c.in-Some-pending.is)))
    (c.find.ensures.shows _ left)

pub returns-in_default-pending-clause-shows : goal.returns-in_default-pending-clause-shows
returns-in_default-pending-clause-shows c = λ w shown.
    let left = c.put_left.ensures.shows w shown in
    subst (Shows c.put_left.new.self)
    (left_empty w c.args.take.now.reader (c.args.take.now.number + 1) c.in-Some.cell
    c.args.take.now.sides c.args.take.now.taken.side c.args.side
    (sym c.is_left.ensures ∙ c.if-not-is_left.false) (sym c.read.ensures ∙ c.in-Some.is)
    (ap is_some (sym (c.pending.ensures _ left))
    ∙ not_some c.pending.result c.in_default-pending.not-Some))
    left

pub returns-in_default-pending-clause-adds : goal.returns-in_default-pending-clause-adds
returns-in_default-pending-clause-adds c = λ w shown.
    left_adds w.words c.args.self.now c.put_left.new.self c.args.take.now c.in-Some.cell
    c.args.side c.put_left.ensures.left c.put_left.ensures.race (record {
      leaves = sym c.is_left.ensures ∙ c.if-not-is_left.false;
      reads = sym c.read.ensures ∙ c.in-Some.is;
    })

pub returns-in-Some-pending-clause-adds : goal.returns-in-Some-pending-clause-adds
returns-in-Some-pending-clause-adds c = λ w shown.
    let at : LeavesAt c.args.take.now c.args.side c.in-Some.cell = record {
      leaves = sym c.is_left.ensures ∙ c.if-not-is_left.false;
      reads = sym c.read.ensures ∙ c.in-Some.is;
    } in
    let left_out = c.side_word-left_out in
    takes_both w.words c.args.self.now c.put_left.new.self c.find.new.self c.args.take.now
    (left_adds w.words c.args.self.now c.put_left.new.self c.args.take.now c.in-Some.cell
    c.args.side c.put_left.ensures.left c.put_left.ensures.race at)
    (found_adds w.words c.put_left.new.self c.find.new.self c.args.take.now left_out.result
    c.in-Some.cell c.find.ensures.left c.find.ensures.race
    (subst (λ s. LeavesAt c.args.take.now s c.in-Some.cell) (sym left_out.ensures.side) at)
    (sym (c.pending.ensures _ (c.put_left.ensures.shows w shown)) ∙ c.in-Some-pending.is
    ∙ ap Some (sym left_out.ensures.word))
    (left_out.ensures.writer ∙ ap (λ s. unwrap_or (neighbour_of c.args.take.now.reader s)
    c.args.take.now.reader) (sym left_out.ensures.side)))
