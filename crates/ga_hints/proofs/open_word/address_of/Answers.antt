use Rattle.std.proofs.Common.{◌∙◌}
use Rattle.ga_asm.proofs.LabelLists.{lookup_labels}
use Rattle.ga_hints.proofs.open_word.address_of.Goals as goal

pub returns : goal.returns
returns c =
    c.copied.ensures ∙ c.get.ensures.value ∙ lookup_labels c.args.name.now c.args.labels.now.entries
