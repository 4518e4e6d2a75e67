use Rattle.ga_chip.specs.Stuck.{has_node}
use Rattle.ga_waits.proofs.Largest.{same_set}
use Rattle.ga_profile.proofs.unread.unread_nodes.Goals as goal

pub unread_by-requires : goal.unread_by-requires
unread_by-requires c =
    record {
      stuck = same_set c.args.chip.now
          (has_node c.stuck.result) c.legal.ensures c.stuck.ensures.closed c.stuck.ensures.largest;
    }
