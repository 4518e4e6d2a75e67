use Rattle.std.proofs.Common.{◌≡◌, ◌∙◌, ◌≤◌, ◌++◌, length, ap, sym, subst, arith}
use Rattle.std.specs.List.{concat}
use Rattle.std.proofs.lemmas.List.{length-map}
use Rattle.ga_place.specs.Node.{is_among}
use Rattle.ga_group.specs.Plan.{first_repeated, plan_fault}
use Rattle.ga_group.specs.Workers.{sides_of_turns}
use Rattle.ga_group.specs.inner.Work.{AreApart, AreLent, AreSome, HasAllNodes, HaveGained}
use Rattle.ga_group.proofs.Endings.{all_after, front_some, in_front, lent_after, lent_some, names_known, order_back, some_some}
use Rattle.ga_group.proofs.Orders.{apart_once}
use Rattle.ga_group.proofs.Plans.{once, workers_few}
use Rattle.ga_group.proofs.workers.work_plan.Goals as goal

pub arrange-requires-clause-once : goal.arrange-requires-clause-once
arrange-requires-clause-once g c =
    subst AreApart (sym c.requires.nodes)
    (apart_once _ (concat c.args.plan.now) (once c.args.plan.now c.groups-groups.ensures.faultless))

pub work_groups-requires-clause-ready : goal.work_groups-requires-clause-ready
work_groups-requires-clause-ready g c κs bounds =
    let front = c.split_at_mut-front.result.0.now in
    let some : AreSome front c.arrange.new.parts = subst (AreSome front)
    (sym c.split_at_mut-front.ensures.value) (front_some front c.split_at_mut-front.result.1.now) in
    record {
      own = c.requires.table;
      lent = lent_some front c.args.parts.now c.args.seat.now.nodes (some_some front
          c.arrange.new.parts c.args.parts.now some c.arrange.ensures.same) c.requires.lent;
      once = ap (first_repeated _) (in_front front c.arrange.new.parts c.args.nodes.now
          c.split_at_mut-front.ensures.front c.arrange.ensures.front ∙ c.requires.nodes)
          ∙ once c.args.plan.now c.groups-groups.ensures.faultless;
    }

pub work_groups-requires-clause-workers : goal.work_groups-requires-clause-workers
work_groups-requires-clause-workers g c κs bounds =
    let same = c.groups-groups.ensures.value in
    let few =
    workers_few c.groups-groups.result.now (ap plan_fault same ∙ c.groups-groups.ensures.faultless)
    (subst (λ l. length (concat l) ≤ 144) (sym same) c.groups-groups.ensures.most) in
    omega (arith, few)

pub arrange-requires-2-clause-all : goal.arrange-requires-2-clause-all
arrange-requires-2-clause-all g c =
    let value = c.split_at_mut-front.ensures.value in
    all_after c.split_at_mut-front.result.0.now c.split_at_mut-front.result.1.now
    c.work_groups.new.parts c.args.seat.now c.work_groups.new.seat (sides_of_turns c.args.turns)
    (subst HasAllNodes value c.arrange.ensures.all)
    (subst (λ l. AreLent l c.args.seat.now.nodes) value (lent_some c.arrange.new.parts
    c.args.parts.now c.args.seat.now.nodes c.arrange.ensures.same c.requires.lent))
    c.work_groups.ensures

pub returns : goal.returns
returns g c =
    let value = c.split_at_mut-front.ensures.value in
    let front = c.split_at_mut-front.result.0.now in
    let back = c.split_at_mut-front.result.1.now in
    let after = c.work_groups.new.parts in
    let first = c.args.seat.now in
    let last = c.work_groups.new.seat in
    let parts = c.arrange-2.new.parts in
    let named = in_front front c.arrange.new.parts c.args.nodes.now
    c.split_at_mut-front.ensures.front c.arrange.ensures.front in
    let lent : AreLent (front ++ back) first.nodes =
    subst (λ l. AreLent l first.nodes) value (lent_some c.arrange.new.parts c.args.parts.now
    first.nodes c.arrange.ensures.same c.requires.lent) in
    let fronts : AreLent front first.nodes =
    lent_some front (front ++ back) first.nodes (front_some front back) lent in
    let count : length parts ≡ length c.order_of-order.result =
    c.arrange-2.ensures.all.count ∙ sym (ap length c.order_of-order.ensures
    ∙ length-map c.args.parts.now (λ part. part.state.node) ∙ c.requires.all.count) in
    record {
      table = c.work_groups.ensures.table;
      names = order_back parts c.order_of-order.result c.arrange-2.ensures.front count
          ∙ c.order_of-order.ensures;
      lent = lent_some parts (after ++ back) last.nodes c.arrange-2.ensures.same
          (lent_after front back after first last (sides_of_turns c.args.turns)
          (subst HasAllNodes value c.arrange.ensures.all) lent c.work_groups.ensures);
      gained =
          subst (λ names. HaveGained first.nodes last.nodes names (sides_of_turns c.args.turns))
          named c.work_groups.ensures.gained;
      known = λ name among. names_known front first.nodes name fronts
          (ap (is_among name) named ∙ among);
    }
