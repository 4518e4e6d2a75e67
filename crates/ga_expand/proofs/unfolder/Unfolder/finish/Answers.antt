use Rattle.std.proofs.Common.{◌∙◌, ◌++◌, ap, map, sym}
use Rattle.std.specs.Prelude.{option_map}
use Rattle.ga_source.specs.Token.{place_of}
use Rattle.ga_expand.specs.Bodies.{unless_open}
use Rattle.ga_expand.specs.inner.Piece.{piece_in}
use Rattle.ga_expand.proofs.unfolder.Unfolder.finish.Goals as goal

pub returns-clause-ok : goal.returns-clause-ok
returns-clause-ok c =
    let self = c.args.self in
    ap (λ o. unless_open o
    (map piece_in self.definitions.items ++ map piece_in self.text.items))
    (sym (ap (option_map place_of) (sym c.in_default.is) ∙ c.left_open.ensures))
