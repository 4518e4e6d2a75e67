use Rattle.std.proofs.Common.{◌≡◌, [], Some, refl, rules, true}
use Rattle.ga_source.specs.Token.{place_of}
use Rattle.ga_expand.specs.Expanding.{Towards, is_to, with_stage}
use Rattle.ga_expand.specs.inner.Piece.{piece_here}
use Rattle.ga_expand.specs.inner.Scope.{scope_of}
use Rattle.ga_expand.proofs.Taking.{nothing_more, to_begins}
use Rattle.ga_expand.proofs.expander.Expander.take_item.Goals as goal

pub returns-then-eq : goal.returns-then-eq
returns-then-eq c =
    let scope = scope_of c.args.self.now in
    let is : is_to c.args.text.now ≡ true = search rules in
    let node : c.args.self.now.node ≡ Some c.in-Some.node = search rules in (
      record {
        scope = with_stage scope (Towards c.in-Some.node (place_of c.args.place));
        pieces = [];
      },
      to_begins scope c.args.self.now.node c.in-Some.node
          (piece_here c.args.text.now c.args.place) node is,
      record {
        scope = refl;
        written = λ pieces w all. nothing_more c.args.self.now.writer pieces w;
      },
    )
