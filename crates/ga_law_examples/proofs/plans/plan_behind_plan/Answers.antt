use Rattle.std.proofs.Common.{◌∙◌, ◌++◌, ap, sym}
use Rattle.ga_chip.specs.Chip.{part_of}
use Rattle.ga_chip.specs.Run.{tries_of}
use Rattle.ga_law_examples.proofs.Joined.{workers_joined}
use Rattle.ga_law_examples.proofs.Unfed.{fed_agree, fed_alike}
use Rattle.ga_law_examples.proofs.plans.plan_behind_plan.Goals as goal

pub returns-clause-nodes : goal.returns-clause-nodes
returns-clause-nodes g c name here there at then steps =
    let laws = c.runs.ensures in
    let one = c.args.one in
    let two = c.args.two.now in
    let tries = c.args.tries.now in
    let run = c.in_ok-next.ensures.run in
    let again = c.in_ok-last.ensures.run in
    let legal = c.in_ok-next.ensures.legal in
    let both = run.tries ++ again.tries in
    let whole = workers_joined laws.joined laws.tries one c.in_ok-next.next c.in_ok-last.last
    c.args.plan.now c.args.another.now c.args.turns c.args.turns run again legal in
    let agreed = c.confluence.ensures.agree one two (tries_of both) (tries_of tries) legal
    c.legal.ensures c.requires.chips (c.requires.sides _ _ run again)
    (fed_agree laws.unfed one two both tries) in
    let at' = ap (λ chip. part_of chip name) (sym whole) ∙ at in
    let then' = ap (λ chip. part_of chip name) (sym c.run.ensures.chip) ∙ then in
    record {
      state = agreed.ends name here there at' then' steps;
      stream = agreed.left name here there at' then' steps
          (fed_alike laws.unfed one two both tries name);
    }
