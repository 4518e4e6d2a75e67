use Rattle.std.proofs.Common.{ap, ◌∙◌}
use Rattle.ga_chip.specs.Part.{Take}
use Rattle.ga_chip.proofs.Asked.{asked_after, take_need, told_take}
use Rattle.ga_chip.proofs.Parts.{name_after}
use Rattle.ga_chip.proofs.part.NodePart.done_take.Goals as goal

pub take-requires : goal.take-requires
take-requires c =
    take_need c.args.self.now c.requires.0 c.args.from c.requires.1
    (told_take _ c.args.from c.requires.1 c.requires.2)

pub returns-clause-part : goal.returns-clause-part
returns-clause-part c = λ side cell take.
    asked_after c.args.self.now side c.args.found (Take c.args.from cell)
    (c.take.result, c.take.new.self) (told_take _ c.args.from cell take) (c.take.ensures cell)

pub returns-clause-node : goal.returns-clause-node
returns-clause-node c =
    ap (λ r. r.1.state.node) (returns-clause-part c c.requires.0 c.requires.1 c.requires.2)
    ∙ name_after c.args.self.now c.requires.0 c.args.found
