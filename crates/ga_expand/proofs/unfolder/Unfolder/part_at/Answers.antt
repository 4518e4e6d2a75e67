use Rattle.std.proofs.Common.{◌∙◌, Option, ap, sym, ℕ}
use Rattle.std.specs.List.{position}
use Rattle.std.specs.Str.{bytes_eq}
use Rattle.ga_expand.specs.Bodies.{Part}
use Rattle.ga_expand.specs.inner.Piece.{piece_in}
use Rattle.ga_expand.proofs.Lists.{number_named}
use Rattle.ga_expand.proofs.unfolder.Unfolder.part_at.Goals as goal

pub returns : goal.returns
returns c =
    let text = c.args.piece.text.now in
    ap {B = Part} (λ (o : Option ℕ). record { piece = piece_in c.args.piece; parameter = o })
    (c.index_of.ensures
    ∙ ap (position (λ name. bytes_eq name.now text)) c.deref.ensures.value
    ∙ sym (number_named c.args.self.now.parameters.items text))
