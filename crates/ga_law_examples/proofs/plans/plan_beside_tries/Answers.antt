use Rattle.std.proofs.Common.{◌∙◌, ap, sym}
use Rattle.ga_chip.specs.Chip.{part_of}
use Rattle.ga_group.specs.Laws.{AreAlike}
use Rattle.ga_law_examples.proofs.plans.plan_beside_tries.Goals as goal

pub returns-clause-nodes : goal.returns-clause-nodes
returns-clause-nodes g c name here there at then steps =
    let run = c.in_ok-next.ensures.run in
    let alike : AreAlike c.args.one c.args.two.now run.tries c.args.tries.now = record {
      first = c.in_ok-next.ensures.legal;
      second = c.legal.ensures;
      chips = c.requires.chips;
      sides = λ n. c.requires.sides _ run n;
    } in
    (c.plans_agree.ensures.run c.args.one c.args.two.now c.in_ok-next.next c.args.plan.now
    c.args.turns c.args.tries.now run alike).1 name here there at
    (ap (λ chip. part_of chip name) (sym c.run.ensures.chip) ∙ then) steps
