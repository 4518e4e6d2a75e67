use Rattle.std.proofs.Common.{◌∙◌, sym}
use Rattle.ga_expand.specs.inner.Constants.{constants_in}
use Rattle.ga_expand.proofs.Expressions.{in_form, without_parts}
use Rattle.ga_expand.proofs.constants.Constants.+value_within.Goals as goal

pub returns-in-Some : goal.returns-in-Some
returns-in-Some t c =
    in_form c.args.levels (constants_in c.args.self.now.values.entries) c.args.text.now
    c.in-Some.operand c.if-levels-eq0.false (sym c.form_of.ensures ∙ c.in-Some.is)

pub returns-in-None : goal.returns-in-None
returns-in-None t c =
    c.plain_operand.ensures
    ∙ without_parts c.args.levels (constants_in c.args.self.now.values.entries)
    c.args.text.now c.if-levels-eq0.false (sym c.form_of.ensures ∙ c.in_default.is)
    (sym c.parted.ensures ∙ c.in_default-parted.is) (sym c.in_default-inside.ensures)
    (sym c.in-None.ensures)
