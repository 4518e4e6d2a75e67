use Rattle.std.proofs.Common.{◌≡◌, ℕ, Bool, true, false, Option, Some, None, ap, ◌∙◌, option_map, refl, subst, sym}
use Rattle.std.specs.Prelude.{is_some, not}
use Rattle.std.proofs.lemmas.Bool.{false≢true}
use Rattle.ga_place.specs.declared.side.Side.{Side}
use Rattle.ga_chip.specs.declared.outcome.Outcome.{Outcome}
use Rattle.ga_chip.specs.Part.{Part, Check, Nothing, Post, Take, after_asked, asks_by}
use Rattle.ga_chip.proofs.Asked.{own_finds, take_need, told_check, told_nothing, told_post, told_take}
use Rattle.ga_chip.proofs.Partner.{partner_told}
use Rattle.ga_chip.proofs.Plain.{after_by}
use Rattle.ga_chip.specs.inner.Partner.{HasPartner}
use Rattle.ga_place.specs.Cell.{index_of}
use Rattle.ga_chip.proofs.part.NodePart.meet.Goals as goal

pub take-outcome-requires : goal.take-outcome-requires
take-outcome-requires c =
    take_need c.args.self.now c.args.side c.in-Take.from c.in-Take.cell
    (c.requires.free ∙ told_take _ c.in-Take.from c.in-Take.cell (sym c.in-Take.ensures))

pub returns-in-Own-clause-part : goal.returns-in-Own-clause-part
returns-in-Own-clause-part c =
    let asked =
    asks_by c.args.need.now c.args.self.now.state.node c.args.self.now.stream c.args.side in
    after_by c.args.self.now c.args.side c.args.cells.now asked
    (c.work.result, c.work.new.self) c.requires.free
    (c.work.ensures c.args.side ∙ ap (λ found. after_asked asked found c.args.self.now)
    (sym (own_finds asked c.args.cells.now (sym c.in-Own.ensures))))

pub returns-in-Post-clause-part : goal.returns-in-Post-clause-part
returns-in-Post-clause-part c =
    after_by c.args.self.now c.args.side c.args.cells.now (Post c.in-Post.to c.in-Post.cell
    c.in-Post.word) (c.post-outcome.result, c.post-outcome.new.self)
    (c.requires.free ∙ told_post _ c.in-Post.to c.in-Post.cell c.in-Post.word
    (sym c.in-Post.ensures)) (c.post-outcome.ensures c.in-Post.cell)

pub returns-in-Take-clause-part : goal.returns-in-Take-clause-part
returns-in-Take-clause-part c =
    after_by c.args.self.now c.args.side c.args.cells.now (Take c.in-Take.from c.in-Take.cell)
    (c.take-outcome.result, c.take-outcome.new.self)
    (c.requires.free ∙ told_take _ c.in-Take.from c.in-Take.cell (sym c.in-Take.ensures))
    (c.take-outcome.ensures c.in-Take.cell ∙ ap (λ found.
    after_asked (Take c.in-Take.from c.in-Take.cell) found c.args.self.now)
    c.take-found.ensures.word)

pub returns-in-Check-clause-part : goal.returns-in-Check-clause-part
returns-in-Check-clause-part c =
    after_by c.args.self.now c.args.side c.args.cells.now (Check c.in-Check.to c.in-Check.cell)
    (c.check.result, c.check.new.self)
    (c.requires.free ∙ told_check _ c.in-Check.to c.in-Check.cell (sym c.in-Check.ensures))
    (by c.args.self.now c.in-Check.to c.in-Check.cell
    (c.check.result, c.check.new.self) c.is_none-empty.result c.pending.result
    c.is_none-empty.ensures (λ e. c.check.ensures.read e c.in-Check.to c.in-Check.cell)
    (λ e word. c.check.ensures.unread e c.in-Check.to c.in-Check.cell word)
    ∙ ap (λ found. after_asked (Check c.in-Check.to c.in-Check.cell) found c.args.self.now)
    c.pending.ensures)
  where
    by : (part : Part) (to : Side) (cell : ℕ) (r : Outcome × Part) (empty : Bool) (found : Option ℕ)
        → is_some found ≡ not empty → (empty ≡ true → r ≡ after_asked (Check to cell) None part)
        → (empty ≡ false → (word : ℕ) → r ≡ after_asked (Check to cell) (Some word) part)
        → r ≡ after_asked (Check to cell) found part
    by part to cell r true None is read unread = read refl
    by part to cell r false (Some word) is read unread = unread refl word
    by part to cell r false None is read unread = absurd (false≢true is)
    by part to cell r true (Some word) is read unread = absurd (false≢true (sym is))

pub returns-in-Nothing-clause-part : goal.returns-in-Nothing-clause-part
returns-in-Nothing-clause-part c =
    after_by c.args.self.now c.args.side c.args.cells.now (Nothing c.in-Nothing.outcome)
    (c.in-Nothing.outcome, c.args.self.now)
    (c.requires.free ∙ told_nothing _ c.in-Nothing.outcome (sym c.in-Nothing.ensures)) refl

pub returns-in-Own-clause-wakes : goal.returns-in-Own-clause-wakes
returns-in-Own-clause-wakes c = λ moved.
    sym (ap (option_map index_of) (subst (λ q. HasPartner q c.args.self.now.state.node
    c.args.need.now c.args.side) (sym c.in-Own.ensures) (partner_told c.args.need.now
    c.args.self.now.state.node c.args.self.now.stream c.args.side)))

pub returns-in-Post-clause-wakes : goal.returns-in-Post-clause-wakes
returns-in-Post-clause-wakes c = λ moved.
    c.neighbour-wakes.ensures.value
    ∙ sym (ap (option_map index_of) (subst (λ q. HasPartner q c.args.self.now.state.node
    c.args.need.now c.args.side) (sym c.in-Post.ensures) (partner_told c.args.need.now
    c.args.self.now.state.node c.args.self.now.stream c.args.side)))

pub returns-in-Take-clause-wakes : goal.returns-in-Take-clause-wakes
returns-in-Take-clause-wakes c = λ moved.
    c.neighbour-wakes-in-Take.ensures.value
    ∙ sym (ap (option_map index_of) (subst (λ q. HasPartner q c.args.self.now.state.node
    c.args.need.now c.args.side) (sym c.in-Take.ensures) (partner_told c.args.need.now
    c.args.self.now.state.node c.args.self.now.stream c.args.side)))

pub returns-in-Check-clause-wakes : goal.returns-in-Check-clause-wakes
returns-in-Check-clause-wakes c = λ moved.
    sym (ap (option_map index_of) (subst (λ q. HasPartner q c.args.self.now.state.node
    c.args.need.now c.args.side) (sym c.in-Check.ensures) (partner_told c.args.need.now
    c.args.self.now.state.node c.args.self.now.stream c.args.side)))

pub returns-in-Nothing-clause-wakes : goal.returns-in-Nothing-clause-wakes
returns-in-Nothing-clause-wakes c = λ moved. absurd
    (subst (λ q. HasPartner q c.args.self.now.state.node c.args.need.now c.args.side)
    (sym c.in-Nothing.ensures) (partner_told c.args.need.now c.args.self.now.state.node
    c.args.self.now.stream c.args.side) moved)
