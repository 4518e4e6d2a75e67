use Rattle.std.proofs.Common.{◌∙◌, sym}
use Rattle.ga_trace.proofs.LastSteps.{one_last, other_last}
use Rattle.ga_trace.proofs.last.LastStepObserver.see.Goals as goal

pub returns-then-eq : goal.returns-then-eq
returns-then-eq c begun steps (node, last) = (
  node,
  one_last c.args.self.now.node begun.node begun.step c.args.self.now.step steps c.args.step node
      last (sym c.eq.ensures ∙ c.if-eq.true),
)

pub returns-else-eq : goal.returns-else-eq
returns-else-eq c begun steps (node, last) = (
  node,
  other_last c.args.self.now.node begun.node begun.step c.args.self.now.step steps c.args.step node
      last (sym c.eq.ensures ∙ c.if-eq.false),
)
