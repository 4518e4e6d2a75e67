use Rattle.std.proofs.Common.{◌∙◌, ◌++◌, ap, sym, true, false}
use Rattle.std.specs.List.{concat}
use Rattle.std.proofs.Math.ListN.{drop_of_length-le}
use Rattle.ga_place.specs.Node.{is_among}
use Rattle.ga_group.specs.Plan.{groups_in}
use Rattle.ga_group.proofs.Walk.{among_next}
use Rattle.ga_group.proofs.plan.stands_in.Goals as goal

pub returns-then-contains : goal.returns-then-contains
returns-then-contains c =
    sym (c.loop-group.invariant
    ∙ among_next c.args.groups.now c.loop-group.group-index c.group-item.result c.args.front.now
    c.args.node true c.loop-group-test.true c.group-item.is
    (ap (is_among c.args.node) (sym c.deref.ensures.value) ∙ sym c.contains.ensures.value
    ∙ c.if-contains.true))

pub loop-group-preserved : goal.loop-group-preserved
loop-group-preserved c =
    c.loop-group.invariant
    ∙ among_next c.args.groups.now c.loop-group.group-index c.group-item.result c.args.front.now
    c.args.node false c.loop-group-test.true c.group-item.is
    (ap (is_among c.args.node) (sym c.deref.ensures.value) ∙ sym c.contains.ensures.value
    ∙ c.if-contains.false)

pub returns : goal.returns
returns c =
    sym (c.loop-group.invariant
    ∙ ap (λ l. is_among c.args.node (concat (groups_in l) ++ c.args.front.now))
    (drop_of_length-le c.args.groups.now c.loop-group-test.false)
    ∙ sym c.contains-2.ensures.value)
