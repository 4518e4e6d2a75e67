use Rattle.std.proofs.Common.{◌∙◌, ap, refl, sym}
use Rattle.ga_pack.specs.Model.Token.{meaning_of}
use Rattle.ga_expand.specs.Expanding.{Stage, stage_by, with_stage}
use Rattle.ga_expand.specs.inner.Piece.{piece_here}
use Rattle.ga_expand.specs.inner.Scope.{scope_of}
use Rattle.ga_expand.proofs.Opcodes.{op_stays}
use Rattle.ga_expand.proofs.Stages.{of_op}
use Rattle.ga_expand.proofs.Taking.{word_taken}
use Rattle.ga_expand.proofs.expander.Expander.take_op.Goals as goal

pub returns : goal.returns
returns c =
    let scope = scope_of c.args.self.now in
    let text = c.args.text.now in
    word_taken c.args.self.now
    (record c.args.self.now { writer = c.push.new.self; stage = c.stage_in-self.result })
    (piece_here text c.args.place) (with_stage scope (stage_by (meaning_of text))) refl
    (ap (λ (s : Stage). with_stage scope s) (c.stage_in-self.ensures ∙ c.behind_op.ensures
    ∙ ap stage_by (sym (of_op text c.args.op c.requires)))) (
      text,
      op_stays text c.args.op c.args.self.now.constants.values.entries c.requires
          c.args.self.now.constants.free,
      c.in_ok-push.ensures,
    )
