use Rattle.std.proofs.Common.{◌∙◌, ap, sym}
use Rattle.std.specs.Prelude.{◌||◌}
use Rattle.std.specs.List.{list_any}
use Rattle.std.specs.Str.{bytes_eq}
use Rattle.ga_expand.specs.Constants.{is_among}
use Rattle.ga_expand.specs.inner.Bodies.{texts_in}
use Rattle.ga_expand.proofs.Lists.{names_among}
use Rattle.ga_expand.proofs.unfolder.Unfolder.is_taken.Goals as goal

pub returns-else-has_body : goal.returns-else-has_body
returns-else-has_body c =
    let names = c.args.self.now.constants.items in
    let name = c.args.name.now in
    c.is_among.ensures
    ∙ ap (list_any (λ other. bytes_eq name other.now)) c.deref.ensures.value
    ∙ names_among names name
    ∙ ap (λ b. b || is_among (texts_in names) name) (sym (sym c.has_body.ensures
    ∙ c.if-has_body.false))
