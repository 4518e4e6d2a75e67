use Rattle.std.proofs.Common.{◌∙◌, ap}
use Rattle.std.specs.Prelude.{replicate}
use Rattle.ga_report.proofs.path_watch.no_trails.Goals as goal

pub returns : goal.returns
returns c =
    c.in_ok-trails.ensures.items_if_clones_equal (λ copy is. is)
    ∙ ap (λ trail. replicate 1296 trail) c.no_trail-none.ensures
