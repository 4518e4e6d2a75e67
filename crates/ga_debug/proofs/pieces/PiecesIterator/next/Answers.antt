use Rattle.std.proofs.Common.{rules, ◌≡◌, ◌∙◌, Some, ap, length, sym}
use Rattle.ga_debug.specs.inner.Pieces.{pieces_in}
use Rattle.ga_debug.proofs.Cutting.{first_cut, no_cut}
use Rattle.ga_debug.proofs.pieces.PiecesIterator.next.Goals as goal

pub returns-in-Some-clause-steps : goal.returns-in-Some-clause-steps
returns-in-Some-clause-steps c =
    let separator = c.self.inside.separator in
    let is : c.self.inside.rest ≡ Some c.in_ok-text.text = search rules in
    sym c.self.view_is ∙ ap (pieces_in separator) is ∙ first_cut separator c.in_ok-text.text.now
    c.in-Some.piece c.in-Some.behind c.self.invariant c.in-Some.ensures.cases

pub returns-in-Some-clause-goes : goal.returns-in-Some-clause-goes
returns-in-Some-clause-goes c =
    let shorter = ap length (returns-in-Some-clause-steps c) in search (rules, shorter)

pub returns-in-None-clause-steps : goal.returns-in-None-clause-steps
returns-in-None-clause-steps c =
    let separator = c.self.inside.separator in
    let is : c.self.inside.rest ≡ Some c.in_ok-text.text = search rules in
    sym c.self.view_is ∙ ap (pieces_in separator) is
    ∙ no_cut separator c.in_ok-text.text.now c.self.invariant c.in-None.ensures.cases

pub returns-in-None-clause-goes : goal.returns-in-None-clause-goes
returns-in-None-clause-goes c =
    let shorter = ap length (returns-in-None-clause-steps c) in search (rules, shorter)
