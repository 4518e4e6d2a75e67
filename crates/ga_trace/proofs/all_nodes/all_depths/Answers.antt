use Rattle.std.proofs.Common.{◌∙◌, ap}
use Rattle.ga_chip.specs.Chip.{Chip}
use Rattle.ga_trace.specs.Depth.{all_depths}
use Rattle.ga_trace.proofs.AllNodes.{all_made}
use Rattle.ga_trace.proofs.all_nodes.all_depths.Goals as goal

pub returns-clause-depths : goal.returns-clause-depths
returns-clause-depths c =
    all_made c.from.result c.in_ok-chip.chip c.make_turns.new.chip c.in_ok-depths.depths.items
    c.make_turns.new.depths.items c.in_ok-depths.ensures c.make_turns.ensures
    ∙ ap (λ turns. all_depths turns c.in_ok-chip.chip) c.from.ensures
    ∙ ap (λ (chip : Chip). all_depths c.args.turns chip) c.in_ok-chip.ensures
