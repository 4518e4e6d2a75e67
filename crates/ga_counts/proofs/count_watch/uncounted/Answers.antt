use Rattle.std.proofs.Common.{◌∙◌, ap}
use Rattle.std.specs.Prelude.{replicate}
use Rattle.ga_counts.proofs.count_watch.uncounted.Goals as goal

pub returns : goal.returns
returns c =
    c.in_ok-words.ensures.items_if_clones_equal (λ copy is. is)
    ∙ ap (λ counts. replicate 9216 counts) c.no_counts-none.ensures
