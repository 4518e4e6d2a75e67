use Rattle.ga_chip.specs.Stuck.{has_node}
use Rattle.ga_waits.proofs.Largest.{same_set}
use Rattle.ga_map.proofs.behind.stuck_names.Goals as goal

pub behind_names-requires : goal.behind_names-requires
behind_names-requires c =
    record {
      stuck = same_set c.args.chip.now
          (has_node c.stuck.result) c.legal.ensures c.stuck.ensures.closed c.stuck.ensures.largest;
    }
