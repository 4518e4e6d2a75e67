use Rattle.std.proofs.Common.{◌≡◌, ◌∙◌, ◌<◌, Some, None, option_map, ap, sym, subst, rules, length, take}
use Rattle.std.specs.List.{AllByRecursion, concat}
use Rattle.std.proofs.lemmas.List.{drop_all, take_all}
use Rattle.ga_place.specs.Node.{IsNodeName}
use Rattle.ga_group.specs.Plan.{first_repeated, groups_fault, groups_in, plan_fault}
use Rattle.ga_group.specs.declared.error.PlanError.TheVariants.{Repeated}
use Rattle.ga_group.proofs.Plans.{few}
use Rattle.ga_group.proofs.Walk.{fault_next, more_named, some_group}
use Rattle.ga_group.proofs.plan.fault_of.Goals as goal

pub returns-in-Some-clause-fault : goal.returns-in-Some-clause-fault
returns-in-Some-clause-fault c =
    let before = concat (groups_in (take c.loop-worker.worker c.args.groups.now)) in
    let some : 0 < length c.index-groups-worker.result.items = (search rules) in
    let told = some_group c.loop-worker.worker before c.index-groups-worker.result.items some
    ∙ ap (λ l. option_map Repeated (first_repeated before l)) (sym c.deref.ensures.value)
    ∙ ap (option_map Repeated) (sym c.first_repeated.ensures.node ∙ c.in-Some.is) in
    sym (c.loop-worker.invariant.0
    ∙ fault_next c.args.groups.now c.loop-worker.worker c.index-groups-worker.result
    (Some (Repeated c.in-Some.node)) c.loop-worker-test.true c.index-groups-worker.is told)

pub loop-worker-preserved : goal.loop-worker-preserved
loop-worker-preserved c =
    let before = concat (groups_in (take c.loop-worker.worker c.args.groups.now)) in
    let some : 0 < length c.index-groups-worker.result.items = (search rules) in
    let told = some_group c.loop-worker.worker before c.index-groups-worker.result.items some
    ∙ ap (λ l. option_map Repeated (first_repeated before l)) (sym c.deref.ensures.value)
    ∙ ap (option_map Repeated) (sym c.first_repeated.ensures.node ∙ c.in_default.is) in (
      c.loop-worker.invariant.0 ∙ fault_next c.args.groups.now c.loop-worker.worker
          c.index-groups-worker.result None c.loop-worker-test.true c.index-groups-worker.is told,
      more_named c.args.groups.now c.loop-worker.worker c.index-groups-worker.result
          c.loop-worker-test.true c.index-groups-worker.is c.loop-worker.invariant.1
          (subst (AllByRecursion IsNodeName) c.deref.ensures.value
          (c.first_repeated.ensures.named c.in_default.is)),
    )

pub returns-clause-most : goal.returns-clause-most
returns-clause-most c e =
    let none : plan_fault (groups_in c.args.groups.now) ≡ None =
    c.loop-worker.invariant.0 ∙ ap (λ l. groups_fault c.loop-worker.worker
    (concat (groups_in (take c.loop-worker.worker c.args.groups.now))) (groups_in l))
    (drop_all c.loop-worker.worker c.args.groups.now c.loop-worker-test.false) in
    few (groups_in c.args.groups.now) none
    (subst (λ l. AllByRecursion IsNodeName (concat (groups_in l))) (take_all c.loop-worker.worker
    c.args.groups.now c.loop-worker-test.false) c.loop-worker.invariant.1)
