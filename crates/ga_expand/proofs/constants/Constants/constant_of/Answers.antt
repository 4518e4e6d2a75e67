use Rattle.std.proofs.Common.{◌∙◌}
use Rattle.ga_expand.proofs.Names.{lookup_constants}
use Rattle.ga_expand.proofs.constants.Constants.constant_of.Goals as goal

pub returns : goal.returns
returns c =
    c.copied.ensures ∙ c.get.ensures.value
    ∙ lookup_constants c.args.name.bytes c.args.self.now.values.entries
