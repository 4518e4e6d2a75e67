use Rattle.std.proofs.Common.{◌∙◌, sym}
use Rattle.ga_expand.proofs.Names.{name-IsUtf8}
use Rattle.ga_expand.proofs.constants.name_in.Goals as goal

pub returns-in-Err : goal.returns-in-Err
returns-in-Err c =
    absurd (c.in-Err.ensures.cases.0
    (name-IsUtf8 c.args.text.now (sym c.is_name.ensures ∙ c.if-not-is_name.false)))
