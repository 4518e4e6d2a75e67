use Rattle.std.proofs.Common.{◌∙◌, ap}
use Rattle.std.specs.List.{find}
use Rattle.std.specs.Str.{bytes_eq}
use Rattle.ga_expand.proofs.Lists.{is_found}
use Rattle.ga_expand.proofs.unfolder.Unfolder.has_body.Goals as goal

pub returns : goal.returns
returns c =
    c.is_some.ensures
    ∙ is_found c.args.self.now.bodies.items c.args.name.now c.body_named.result
    (c.body_named.ensures
    ∙ ap (find (λ body. bytes_eq body.name.now c.args.name.now)) c.deref.ensures.value)
