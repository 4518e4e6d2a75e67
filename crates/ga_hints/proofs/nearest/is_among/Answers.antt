use Rattle.std.proofs.Common.{◌∙◌, sym}
use Rattle.ga_hints.proofs.Lists.{among_map}
use Rattle.ga_hints.proofs.nearest.is_among.Goals as goal

pub returns : goal.returns
returns c = c.is_any.ensures ∙ sym (among_map c.args.word.now c.args.names.now)
