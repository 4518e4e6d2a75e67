use Rattle.std.proofs.Common.{◌≡◌, [], false, refl, rules, subst, sym, true}
use Rattle.ga_source.specs.Token.{place_of}
use Rattle.ga_expand.specs.Expanding.{Naming, is_const, with_stage}
use Rattle.ga_expand.specs.inner.Piece.{piece_here}
use Rattle.ga_expand.specs.inner.Scope.{Took, scope_of}
use Rattle.ga_expand.proofs.Taking.{begins, begins_none, nothing_more}
use Rattle.ga_expand.proofs.expander.Expander.take_first.Goals as goal

pub returns-then-eq : goal.returns-then-eq
returns-then-eq c =
    let scope = scope_of c.args.self.now in
    let is : is_const c.args.text.now ≡ true = search rules in (
      record { scope = with_stage scope (Naming (place_of c.args.place)); pieces = [] },
      begins scope (piece_here c.args.text.now c.args.place) is,
      record {
        scope = refl;
        written = λ pieces w all. nothing_more c.args.self.now.writer pieces w;
      },
    )

pub returns : goal.returns
returns c =
    let is : is_const c.args.text.now ≡ false = search rules in
    subst (λ answer. Took c.args.self.now c.take_plain.new.self answer c.take_plain.result)
    (sym (begins_none (scope_of c.args.self.now) (piece_here c.args.text.now c.args.place) is))
    c.take_plain.ensures
