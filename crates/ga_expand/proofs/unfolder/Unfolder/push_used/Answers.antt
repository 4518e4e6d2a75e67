use Rattle.std.proofs.Common.{◌∙◌, refl, sym}
use Rattle.ga_expand.proofs.Uses.{in_body, in_text}
use Rattle.ga_expand.proofs.unfolder.Unfolder.push_used.Goals as goal

pub returns-then-is_some : goal.returns-then-is_some
returns-then-is_some c =
    let self = c.args.self.now in
    in_body self (record self { parts = c.push_filled.new.parts }) c.deref.result.now
    c.deref-then-is_some.result.now c.deref.ensures.value c.deref-then-is_some.ensures.value
    c.push_filled.result (sym c.is_some.ensures ∙ c.if-is_some.true) refl
    c.push_filled.ensures.parts c.push_filled.ensures.role

pub returns-else-is_some : goal.returns-else-is_some
returns-else-is_some c =
    let self = c.args.self.now in
    in_text self (record self { text = c.push_pieces.new.pieces })
    c.deref-else-is_some.result.now c.deref-else-is_some-2.result.now
    c.deref-else-is_some.ensures.value c.deref-else-is_some-2.ensures.value
    c.push_pieces.result (sym c.is_some.ensures ∙ c.if-is_some.false) refl
    c.push_pieces.ensures.pieces c.push_pieces.ensures.role
