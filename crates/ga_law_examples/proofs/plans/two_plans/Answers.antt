use Rattle.ga_law_examples.proofs.plans.two_plans.Goals as goal

pub returns-clause-nodes : goal.returns-clause-nodes
returns-clause-nodes g c =
    let run = c.in_ok-first.ensures.run in
    let again = c.in_ok-second.ensures.run in
    (c.plans_agree.ensures.plans c.args.one c.args.two c.in_ok-first.first c.in_ok-second.second
    c.args.plan.now c.args.another.now c.args.turns c.args.turns run again
    (record {
      first = c.in_ok-first.ensures.legal;
      second = c.in_ok-second.ensures.legal;
      chips = c.requires.chips;
      sides = λ name. c.requires.sides _ _ run again name;
    })).1
