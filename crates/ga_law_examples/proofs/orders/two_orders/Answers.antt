use Rattle.std.proofs.Common.{◌∙◌, ap, sym}
use Rattle.ga_chip.specs.Chip.{part_of}
use Rattle.ga_chip.specs.Run.{tries_of}
use Rattle.ga_law_examples.proofs.Unfed.{fed_agree, fed_alike}
use Rattle.ga_law_examples.proofs.orders.two_orders.Goals as goal

pub returns : goal.returns
returns c =
    let unfed = c.runs.ensures.unfed in
    let one = c.args.one.now in
    let two = c.args.two.now in
    let agreed = c.confluence.ensures.agree one two (tries_of c.args.order.now)
    (tries_of c.args.another.now) c.legal.ensures c.legal-2.ensures c.requires.chips
    c.requires.sides (fed_agree unfed one two c.args.order.now c.args.another.now) in
    record {
      first = c.run.ensures.chip;
      second = c.run-2.ensures.chip;
      nodes = λ name here there at then steps.
          let at' = ap (λ chip. part_of chip name) (sym c.run.ensures.chip) ∙ at in
          let then' = ap (λ chip. part_of chip name) (sym c.run-2.ensures.chip) ∙ then in
          record {
            state = agreed.ends name here there at' then' steps;
            stream = agreed.left name here there at' then' steps
                (fed_alike unfed one two c.args.order.now c.args.another.now name);
          };
      written = agreed.written;
      taken = agreed.taken;
    }
