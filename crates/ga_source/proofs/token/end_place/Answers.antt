use Rattle.std.proofs.Common.{◌∙◌, ap}
use Rattle.ga_source.specs.inner.Walk.{walk}
use Rattle.ga_source.proofs.Walking.{end_walked}
use Rattle.ga_source.proofs.token.end_place.Goals as goal

pub returns : goal.returns
returns c =
    c.behind.ensures ∙ ap (walk (record { line = 1; column = 1 })) c.as_bytes.ensures.value
    ∙ end_walked c.args.text.now
