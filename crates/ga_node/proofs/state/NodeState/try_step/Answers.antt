use Rattle.std.proofs.Common.{rules, ◌≡◌, ◌∙◌, ◌+◌, ◌-◌, ◌^◌, ◌==◌, false, ap, sym}
use Rattle.ga_node.specs.State.{State}
use Rattle.ga_node.specs.inner.Work.{gone_on}
use Rattle.ga_node.proofs.Works.{own_step, stayed, stepped}
use Rattle.ga_node.proofs.state.NodeState.try_step.Goals as goal

pub returns-then-moved-clause-own : goal.returns-then-moved-clause-own
returns-then-moved-clause-own c =
    let less : (c.args.self.now.steps == 2 ^ 64 - 1) ≡ false = search rules in
    c.is_some-moved.ensures ∙ c.try_work.ensures.own
    ∙ own_step c.args.may_fetch c.args.self.now less

pub returns-then-moved-clause-step : goal.returns-then-moved-clause-step
returns-then-moved-clause-step c =
    let less : (c.args.self.now.steps == 2 ^ 64 - 1) ≡ false = search rules in
    ap (λ (after : State). record after { steps = c.self.inside.steps + 1 })
    (c.self-2.view_is ∙ c.try_work.ensures.work)
    ∙ ap (λ steps. record (gone_on c.args.may_fetch c.args.self.now) { steps = steps + 1 })
    (ap (λ state. state.steps) c.self.view_is)
    ∙ stepped c.args.may_fetch c.args.self.now less
    (sym c.try_work.ensures.own ∙ sym c.is_some-moved.ensures ∙ c.if-moved.true)

pub returns-else-moved-clause-own : goal.returns-else-moved-clause-own
returns-else-moved-clause-own c =
    let less : (c.args.self.now.steps == 2 ^ 64 - 1) ≡ false = search rules in
    c.is_some-moved.ensures ∙ c.try_work.ensures.own
    ∙ own_step c.args.may_fetch c.args.self.now less

pub returns-else-moved-clause-step : goal.returns-else-moved-clause-step
returns-else-moved-clause-step c =
    let less : (c.args.self.now.steps == 2 ^ 64 - 1) ≡ false = search rules in
    c.try_work.ensures.work ∙ stayed c.args.may_fetch c.args.self.now less
    (sym c.try_work.ensures.own ∙ sym c.is_some-moved.ensures ∙ c.if-moved.false)
