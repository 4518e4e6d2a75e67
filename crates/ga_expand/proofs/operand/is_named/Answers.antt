use Rattle.std.proofs.Common.{◌∙◌}
use Rattle.ga_expand.proofs.Lists.{names_among}
use Rattle.ga_expand.proofs.operand.is_named.Goals as goal

pub returns : goal.returns
returns c = c.is_any.ensures ∙ names_among c.args.names.now c.args.text.now
