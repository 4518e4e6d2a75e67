use Rattle.std.proofs.Common.{◌∙◌, ap, refl}
use Rattle.ga_place.specs.Node.{node_named}
use Rattle.ga_expand.specs.Expanding.{Body, Scope, in_node}
use Rattle.ga_expand.specs.declared.expander.Stage.TheVariants as at
use Rattle.ga_expand.specs.inner.Constants.{constants_in}
use Rattle.ga_expand.specs.inner.Piece.{piece_here}
use Rattle.ga_expand.specs.inner.Scope.{scope_of}
use Rattle.ga_expand.proofs.Taking.{word_taken}
use Rattle.ga_expand.proofs.expander.Expander.take_node.Goals as goal

pub returns : goal.returns
returns c =
    let scope = scope_of c.args.self.now in
    let node = c.from_digits-node.result in
    word_taken c.args.self.now (record c.push_word.new.self { node = node; stage = at.Body })
    (piece_here c.args.text.now c.args.place) (in_node scope (node_named c.args.text.now)) refl
    (ap {B = Scope} (λ e. record {
      constants = constants_in e.constants.values.entries;
      node = node;
      stage = Body;
    }) c.in_ok-push_word.ensures.kept ∙ ap (in_node scope) c.from_digits-node.ensures)
    c.in_ok-push_word.ensures.ok
