use Rattle.std.proofs.Common.{◌∙◌, rules, sym}
use Rattle.ga_call_tests.proofs.Hands.{asks_of, checks_at}
use Rattle.ga_call_tests.proofs.ports.check.Goals as goal

pub check-empty-requires-clause-asks : goal.check-empty-requires-clause-asks
check-empty-requires-clause-asks c =
    let mine = asks_of _ c.args.hand.now.parts.items c.args.node c.index.result
    c.index_mut-part.result.now c.args.side c.asks.result c.requires.same c.index.ensures.value
    c.index.ensures.bound c.index_mut-part.ensures.value c.asks.ensures.value in
    (mine.0, c.in-Check.to, mine.1, mine.2 ∙ c.in-Check.is)

pub returns : goal.returns
returns c =
    let asked = sym c.asks.ensures.value ∙ c.in-Check.is in
    record {
      own = search rules;
      same = checks_at c.args.hand.now.seat.nodes _ c.args.hand.now.parts.items c.args.node
          c.index.result c.args.side c.index_mut-part.result.now _ c.check-empty.result
          c.done_check-outcome.result c.requires.same c.index.ensures.value c.index.ensures.bound
          c.index_mut-part.ensures.value c.check-empty.ensures.read (c.check-empty.ensures.unread 0)
          (c.done_check-outcome.ensures.read c.args.side c.in-Check.cell asked)
          (c.done_check-outcome.ensures.unread c.args.side c.in-Check.cell 0 asked)
          c.done_check-outcome.ensures.node;
    }
