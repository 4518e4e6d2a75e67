use Rattle.std.proofs.Common.{◌∙◌, ◌∷◌, ◌++◌, [], ap}
use Rattle.ga_expand.specs.inner.Piece.{text_of}
use Rattle.ga_expand.proofs.Written.{added}
use Rattle.ga_expand.proofs.writing.Writer.push.Goals as goal

pub returns : goal.returns
returns c =
    added c.args.self.now (record { text = c.push_spelling.new.text; origins = c.push.new.self })
    c.separate.new.self.text.items (text_of c.args.spelling.now) c.args.place
    c.in_ok-separate.ensures.blank c.in_ok-push_spelling.ensures
    (c.in_ok-push.ensures.items
    ∙ ap (λ w. w.origins.items ++ c.args.place ∷ []) c.in_ok-separate.ensures.kept)
