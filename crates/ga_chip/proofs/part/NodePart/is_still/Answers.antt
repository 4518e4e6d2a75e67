use Rattle.std.proofs.Common.{◌∙◌, sym}
use Rattle.ga_chip.proofs.Stays.{Stays, each_side, none_of_four, none_there, one_not_none, stays_alike, stays_taking}
use Rattle.ga_chip.proofs.part.NodePart.is_still.Goals as goal

pub returns-in_default : goal.returns-in_default
returns-in_default c =
    λ yes. stays_alike c.args.self.now c.args.cells.now c.args.need.now c.requires.need
    (λ sides is one. c.in_default.not-Take sides is) c.requires.still

pub returns-then-is_some : goal.returns-then-is_some
returns-then-is_some c = λ yes.
    stays_alike c.args.self.now c.args.cells.now c.args.need.now c.requires.need
    (λ others. one_not_none c.args.need.now c.in-Take.sides others c.only.result c.in-Take.is
    c.only.ensures (sym c.is_some.ensures ∙ c.if-is_some.true))
    c.requires.still

pub returns : goal.returns
returns c = λ yes.
    let none = none_of_four c.finds-right.result c.finds-down.result c.finds-left.result
    c.finds-up.result yes in
    let taking = stays_taking c.args.self.now c.args.cells.now c.in-Take.sides
    (sym c.in-Take.is ∙ c.requires.need) (sym c.only.ensures
    ∙ none_there c.only.result (sym c.is_some.ensures ∙ c.if-is_some.false)) in
    each_side (Stays c.args.self.now c.args.cells.now) (taking _ (c.finds-right.ensures none.0))
    (taking _ (c.finds-down.ensures none.1)) (taking _ (c.finds-left.ensures none.2))
    (taking _ (c.finds-up.ensures none.3))
