use Rattle.std.proofs.Common.{◌∙◌, ◌++◌, ap, sym}
use Rattle.ga_chip.specs.Chip.{part_of}
use Rattle.ga_chip.specs.Run.{ran, tries_of}
use Rattle.ga_law_examples.proofs.Joined.{tries_joined}
use Rattle.ga_law_examples.proofs.Unfed.{fed_agree, fed_alike}
use Rattle.ga_law_examples.proofs.orders.two_parts.Goals as goal

pub returns-clause-first : goal.returns-clause-first
returns-clause-first c =
    let laws = c.runs.ensures in
    c.run-2.ensures.chip ∙ ap (λ chip. ran chip (tries_of c.args.rest.now)) c.run.ensures.chip
    ∙ sym (tries_joined laws.joined laws.tries c.args.one.now c.args.front.now c.args.rest.now
    c.legal.ensures)

pub returns-clause-nodes : goal.returns-clause-nodes
returns-clause-nodes c name here there at then steps =
    let unfed = c.runs.ensures.unfed in
    let one = c.args.one.now in
    let two = c.args.two.now in
    let both = c.args.front.now ++ c.args.rest.now in
    let agreed = c.confluence.ensures.agree one two (tries_of both) (tries_of c.args.order.now)
    c.legal.ensures c.legal-2.ensures c.requires.chips c.requires.sides
    (fed_agree unfed one two both c.args.order.now) in
    let at' = ap (λ chip. part_of chip name) (sym (returns-clause-first c)) ∙ at in
    let then' = ap (λ chip. part_of chip name) (sym c.run-3.ensures.chip) ∙ then in
    record {
      state = agreed.ends name here there at' then' steps;
      stream = agreed.left name here there at' then' steps
          (fed_alike unfed one two both c.args.order.now name);
    }
