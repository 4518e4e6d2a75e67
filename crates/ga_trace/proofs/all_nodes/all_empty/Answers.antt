use Rattle.std.proofs.Common.{◌∙◌, ap}
use Rattle.std.specs.Prelude.{replicate}
use Rattle.ga_trace.proofs.all_nodes.all_empty.Goals as goal

pub returns : goal.returns
returns c =
    c.in_ok-depths.ensures.items_if_clones_equal (λ copy is. is)
    ∙ ap (λ both. replicate 144 both) c.both_empty-empty.ensures
