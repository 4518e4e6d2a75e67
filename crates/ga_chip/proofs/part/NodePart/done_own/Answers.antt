use Rattle.std.proofs.Common.{ap, ◌∙◌, sym, None}
use Rattle.ga_node.specs.Need.{need_of}
use Rattle.ga_chip.specs.Asks.{told_as}
use Rattle.ga_chip.specs.Part.{asks_by}
use Rattle.ga_chip.proofs.Asked.{asked_after, own_by}
use Rattle.ga_chip.proofs.Parts.{name_after}
use Rattle.ga_chip.proofs.part.NodePart.done_own.Goals as goal

pub work-requires-clause-own : goal.work-requires-clause-own
work-requires-clause-own c = (
  c.requires.0,
  sym (ap told_as (own_by c.args.self.now c.requires.0 c.need-need.result (c.need-need.ensures
      ∙ ap (λ p. need_of p.state) c.self.view_is) c.requires.1)) ∙ c.requires.1,
)

pub returns-clause-part : goal.returns-clause-part
returns-clause-part c = λ side own.
    asked_after c.args.self.now side None (asks_by c.need-need.result c.args.self.now.state.node
    c.args.self.now.stream side) (c.work.result, c.work.new.self)
    (own_by c.args.self.now side c.need-need.result
    (c.need-need.ensures ∙ ap (λ p. need_of p.state) c.self.view_is) own) (c.work.ensures side)

pub returns-clause-node : goal.returns-clause-node
returns-clause-node c =
    ap (λ r. r.1.state.node) (returns-clause-part c c.requires.0 c.requires.1)
    ∙ name_after c.args.self.now c.requires.0 None
