use Rattle.std.proofs.Common.{◌≡◌, ap, ◌∙◌, Bool, true, false, None, Some, refl}
use Rattle.ga_chip.specs.Part.{Check}
use Rattle.ga_chip.proofs.Asked.{asked_after, check_need, told_check}
use Rattle.ga_chip.proofs.Parts.{name_after}
use Rattle.ga_chip.proofs.part.NodePart.done_check.Goals as goal

pub check-requires : goal.check-requires
check-requires c =
    check_need c.args.self.now c.requires.0 c.args.to c.requires.1
    (told_check _ c.args.to c.requires.1 c.requires.2)

pub returns-clause-read : goal.returns-clause-read
returns-clause-read c = λ side cell check empty.
    asked_after c.args.self.now side None (Check c.args.to cell) (c.check.result, c.check.new.self)
    (told_check _ c.args.to cell check) (c.check.ensures.read empty c.args.to cell)

pub returns-clause-unread : goal.returns-clause-unread
returns-clause-unread c = λ side cell word check full.
    asked_after c.args.self.now side (Some word) (Check c.args.to cell)
    (c.check.result, c.check.new.self) (told_check _ c.args.to cell check)
    (c.check.ensures.unread full c.args.to cell word)

pub returns-clause-node : goal.returns-clause-node
returns-clause-node c = by c.args.empty refl
  where
    by : (empty : Bool) → c.args.empty ≡ empty
        → c.check.new.self.state.node ≡ c.args.self.now.state.node
    by true read =
        ap (λ r. r.1.state.node) (returns-clause-read c c.requires.0 c.requires.1 c.requires.2 read)
        ∙ name_after c.args.self.now c.requires.0 None
    by false full =
        ap (λ r. r.1.state.node) (returns-clause-unread c c.requires.0 c.requires.1 0 c.requires.2
        full) ∙ name_after c.args.self.now c.requires.0 (Some 0)
