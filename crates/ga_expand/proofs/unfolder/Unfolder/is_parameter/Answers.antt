use Rattle.std.proofs.Common.{◌∙◌, ap}
use Rattle.std.specs.List.{list_any}
use Rattle.std.specs.Str.{bytes_eq}
use Rattle.ga_expand.proofs.Lists.{names_among}
use Rattle.ga_expand.proofs.unfolder.Unfolder.is_parameter.Goals as goal

pub returns : goal.returns
returns c =
    c.is_among.ensures
    ∙ ap (list_any (λ name. bytes_eq c.args.name.now name.now)) c.deref.ensures.value
    ∙ names_among c.args.self.now.parameters.items c.args.name.now
