use Rattle.std.proofs.Common.{◌∙◌, ap}
use Rattle.std.specs.Prelude.{replicate}
use Rattle.ga_profile.proofs.pass_watch.unpassed.Goals as goal

pub returns : goal.returns
returns c =
    c.in_ok-places.ensures.items_if_clones_equal (λ copy is. is)
    ∙ ap (λ passes. replicate 36864 passes) c.no_passes-none.ensures
