use Rattle.std.proofs.Common.{◌∙◌, ap, sym, subst}
use Rattle.std.proofs.lemmas.List.{with_items_is}
use Rattle.ga_group.specs.Workers.{IsWorkersRun}
use Rattle.ga_group.specs.inner.Work.{AreLent, AreSome, HasAllNodes, names_of}
use Rattle.ga_group.proofs.Endings.{all_of_chip, first_lent, legal_of, run_end}
use Rattle.ga_group.proofs.Orders.{same_parts}
use Rattle.ga_group.proofs.workers.run_at.Goals as goal

pub work_plan-requires-clause-all : goal.work_plan-requires-clause-all
work_plan-requires-clause-all g c κs bounds =
    let made = c.into_parts-parts.ensures in
    let legal = legal_of c.args.chip _ _ made.parts made.cells made.legal in
    subst HasAllNodes (sym (c.deref_mut.ensures.value ∙ made.parts)) (all_of_chip c.args.chip legal)

pub work_plan-requires-clause-lent : goal.work_plan-requires-clause-lent
work_plan-requires-clause-lent g c κs bounds =
    let made = c.into_parts-parts.ensures in
    let legal = legal_of c.args.chip _ _ made.parts made.cells made.legal in
    let some : AreSome c.deref_mut.result.now c.args.chip.parts =
    subst (AreSome c.deref_mut.result.now)
    (c.deref_mut.ensures.value ∙ made.parts) (same_parts c.deref_mut.result.now) in
    subst (AreLent c.deref_mut.result.now) (sym c.requires.untried)
    (first_lent c.args.chip legal c.deref_mut.result.now some)

pub close-row-requires : goal.close-row-requires
close-row-requires g c = c.work_plan.ensures.table ∙ c.requires.table

pub from_parts-requires : goal.from_parts-requires
from_parts-requires g c =
    let made = c.into_parts-parts.ensures in
    let work = c.work_plan.ensures in
    let legal = legal_of c.args.chip _ _ made.parts made.cells made.legal in
    let kept = with_items_is c.into_parts-parts.result.0 c.work_plan.new.parts
    (c.work_plan.auto.parts ∙ c.deref_mut.ensures.len) in
    let end = run_end c.args.chip _ c.args.plan.now c.args.turns _ _ _ _ _ _ _ legal
    c.requires.nodes c.requires.untried (work.names ∙ ap names_of (c.deref_mut.ensures.value
    ∙ made.parts)) work.lent work.gained work.known c.requires.opening c.close-row.ensures.1 kept in
    end.0

pub returns : goal.returns
returns g c =
    let made = c.into_parts-parts.ensures in
    let work = c.work_plan.ensures in
    let legal = legal_of c.args.chip _ _ made.parts made.cells made.legal in
    let kept = with_items_is c.into_parts-parts.result.0 c.work_plan.new.parts
    (c.work_plan.auto.parts ∙ c.deref_mut.ensures.len) in
    let end = run_end c.args.chip _ c.args.plan.now c.args.turns _ _ _ _ _ _ _ legal
    c.requires.nodes c.requires.untried (work.names ∙ ap names_of (c.deref_mut.ensures.value
    ∙ made.parts)) work.lent work.gained work.known c.requires.opening c.close-row.ensures.1 kept in
    subst (IsWorkersRun c.args.chip c.args.plan.now c.args.turns) (sym c.from_parts.ensures) end.1
