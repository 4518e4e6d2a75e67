use Rattle.ga_chip.specs.Run.{sides_of, tries_of}
use Rattle.ga_law_examples.proofs.OneSide.{only_agree, sides_named}
use Rattle.ga_law_examples.proofs.orders.one_side.Goals as goal

pub two_orders-requires-clause-sides : goal.two_orders-requires-clause-sides
two_orders-requires-clause-sides c name =
    let named = c.requires.named in
    only_agree named.0 (sides_of c.args.one.now (tries_of c.args.order.now) name)
    (sides_of c.args.two.now (tries_of c.args.another.now) name)
    (sides_named c.args.one.now c.args.order.now name named.0 named.1)
    (sides_named c.args.two.now c.args.another.now name named.0 named.2)
