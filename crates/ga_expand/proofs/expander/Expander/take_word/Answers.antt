use Rattle.std.proofs.Common.{◌∙◌, ap, refl}
use Rattle.ga_pack.specs.Model.Token.{meaning_of}
use Rattle.ga_expand.specs.Expanding.{Scope, Stage, stage_by, with_stage}
use Rattle.ga_expand.specs.inner.Constants.{constants_in}
use Rattle.ga_expand.specs.inner.Piece.{piece_here}
use Rattle.ga_expand.specs.inner.Scope.{scope_of, stage_of}
use Rattle.ga_expand.proofs.Stages.{of_no_op}
use Rattle.ga_expand.proofs.Taking.{word_taken}
use Rattle.ga_expand.proofs.expander.Expander.take_word.Goals as goal

pub returns : goal.returns
returns c =
    let scope = scope_of c.args.self.now in
    let stage = c.stage_in-self.result in
    word_taken c.args.self.now (record c.push_word.new.self { stage = stage })
    (piece_here c.args.text.now c.args.place)
    (with_stage scope (stage_by (meaning_of c.args.text.now))) refl
    (ap {B = Scope} (λ e. record {
      constants = constants_in e.constants.values.entries;
      node = e.node;
      stage = stage_of stage;
    }) c.in_ok-push_word.ensures.kept
    ∙ ap (λ (s : Stage). with_stage scope s) (c.stage_in-self.ensures ∙ c.behind_mark.ensures
    ∙ of_no_op c.args.text.now c.requires))
    c.in_ok-push_word.ensures.ok
