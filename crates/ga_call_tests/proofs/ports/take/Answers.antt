use Rattle.std.proofs.Common.{◌∙◌, None, Some, rules, sym}
use Rattle.ga_call_tests.proofs.Hands.{asks_of, tries_at}
use Rattle.ga_call_tests.proofs.ports.take.Goals as goal

pub take-requires-clause-asks : goal.take-requires-clause-asks
take-requires-clause-asks c =
    let mine = asks_of _ c.args.hand.now.parts.items c.args.node c.index.result
    c.index_mut-part.result.now c.args.side c.asks.result c.requires.same c.index.ensures.value
    c.index.ensures.bound c.index_mut-part.ensures.value c.asks.ensures.value in
    (mine.0, c.in-Take.from, mine.1, mine.2 ∙ c.in-Take.is)

pub returns-in_default-take : goal.returns-in_default-take
returns-in_default-take c =
    record {
      own = search rules;
      same = tries_at c.args.hand.now.seat.nodes _ c.args.hand.now.parts.items c.args.node
          c.index.result c.args.side c.index_mut-part.result.now _ None c.done_take-outcome.result
          c.requires.same c.index.ensures.value c.index.ensures.bound c.index_mut-part.ensures.value
          c.in_default-take.ensures.nodes (c.done_take-outcome.ensures.part c.args.side
          c.in-Take.cell (sym c.asks.ensures.value ∙ c.in-Take.is))
          c.done_take-outcome.ensures.node;
    }

pub returns : goal.returns
returns c =
    record {
      own = search rules;
      same = tries_at c.args.hand.now.seat.nodes _ c.args.hand.now.parts.items c.args.node
          c.index.result c.args.side c.index_mut-part.result.now _
          (Some c.in-Some.word) c.done_take-outcome-2.result c.requires.same c.index.ensures.value
          c.index.ensures.bound c.index_mut-part.ensures.value c.in-Some.ensures.nodes
          (c.done_take-outcome-2.ensures.part c.args.side c.in-Take.cell
          (sym c.asks.ensures.value ∙ c.in-Take.is)) c.done_take-outcome-2.ensures.node;
    }
