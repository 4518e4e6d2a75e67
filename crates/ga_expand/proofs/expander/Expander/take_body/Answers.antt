use Rattle.std.proofs.Common.{◌≡◌, ◌∙◌, false, subst, sym, true}
use Rattle.ga_expand.specs.Constants.{is_taken_label}
use Rattle.ga_expand.specs.inner.Piece.{piece_here}
use Rattle.ga_expand.specs.inner.Scope.{Took, scope_of}
use Rattle.ga_expand.proofs.Taking.{free_label, taken_label}
use Rattle.ga_expand.proofs.expander.Expander.take_body.Goals as goal

pub returns-then-has_label : goal.returns-then-has_label
returns-then-has_label c =
    let scope = scope_of c.args.self.now in
    let is : is_taken_label scope.constants c.args.text.now ≡ true =
    sym c.has_label.ensures ∙ c.if-has_label.true in
    λ some. taken_label scope (piece_here c.args.text.now c.args.place) is

pub returns : goal.returns
returns c =
    let scope = scope_of c.args.self.now in
    let is : is_taken_label scope.constants c.args.text.now ≡ false =
    sym c.has_label.ensures ∙ c.if-has_label.false in
    subst (λ answer. Took c.args.self.now c.take_address.new.self answer c.take_address.result)
    (sym (free_label scope (piece_here c.args.text.now c.args.place) is)) c.take_address.ensures
