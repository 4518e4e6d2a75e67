use Rattle.std.proofs.Common.{◌∙◌, ap, sym}
use Rattle.ga_expand.specs.Expanding.{stage_by}
use Rattle.ga_expand.proofs.Stages.{of_no_op, of_op}
use Rattle.ga_expand.proofs.role.role_behind.Goals as goal

pub returns-in-Some : goal.returns-in-Some
returns-in-Some c =
    c.behind_op.ensures
    ∙ ap stage_by (sym (of_op c.args.text.now c.in-Some.op (sym c.in-Some.ensures)))

pub returns-in-None : goal.returns-in-None
returns-in-None c =
    c.behind_mark.ensures ∙ of_no_op c.args.text.now (sym c.in-None.ensures)
