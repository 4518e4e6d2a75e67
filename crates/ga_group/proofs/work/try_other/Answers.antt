use Rattle.std.proofs.Common.{◌∙◌, Some, None, ap, sym}
use Rattle.ga_chip.specs.Asks.{asked_of, look_at, look_of}
use Rattle.ga_chip.proofs.Found.{look_there, looked_still}
use Rattle.ga_port.specs.Seat.{kept, tried_in}
use Rattle.ga_group.proofs.Counting.{looked_waits}
use Rattle.ga_group.proofs.work.try_other.Goals as goal

pub finds_nothing-requires-clause-looks : goal.finds_nothing-requires-clause-looks
finds_nothing-requires-clause-looks c =
    let looks = look_there c.args.part.now c.in-Some.known c.args.side
    (c.requires.known c.in-Some.known c.in-Some.is) in (
      c.requires.lent.one,
      ap (kept c.args.seat.now.nodes) c.node-node.ensures ∙ c.requires.lent.has,
      ap (λ p. look_of (asked_of p c.args.side)) c.requires.lent.same ∙ looks
          ∙ ap Some (sym c.at.ensures),
    )

pub returns-then-finds_nothing-clause-tried : goal.returns-then-finds_nothing-clause-tried
returns-then-finds_nothing-clause-tried c =
    let looks = look_there c.args.part.now c.in-Some.known c.args.side
    (c.requires.known c.in-Some.known c.in-Some.is) in (
      None,
      c.finds_nothing.ensures.tried c.if-finds_nothing.true
          ∙ ap (λ n. tried_in c.args.seat.now.nodes (record { node = n; side = c.args.side }) None)
          c.node-node.ensures,
      sym (looked_still c.args.part.now c.args.side (look_at c.in-Some.known c.args.side) looks),
      looked_waits c.args.part.now c.args.side (look_at c.in-Some.known c.args.side) looks,
    )
