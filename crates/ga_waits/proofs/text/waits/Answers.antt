use Rattle.ga_chip.specs.Stuck.{has_node}
use Rattle.ga_waits.specs.Ring.{next_of}
use Rattle.ga_waits.proofs.Largest.{largest, same_set}
use Rattle.ga_waits.proofs.RingRows.{in_order, rings_are}
use Rattle.ga_waits.proofs.text.waits.Goals as goal

pub push_nodes-requires : goal.push_nodes-requires
push_nodes-requires c =
    record {
      stuck = same_set c.args.chip.now
          (has_node c.stuck.result) c.legal.ensures c.stuck.ensures.closed c.stuck.ensures.largest;
    }

pub returns-in_err-push_nodes-clause-largest : goal.returns-in_err-push_nodes-clause-largest
returns-in_err-push_nodes-clause-largest c = largest c.args.chip.now c.legal.ensures

pub returns-in_err-push_nodes-clause-rings : goal.returns-in_err-push_nodes-clause-rings
returns-in_err-push_nodes-clause-rings c = rings_are c.args.chip.now c.legal.ensures

pub returns-in_err-push_nodes-clause-ring_order : goal.returns-in_err-push_nodes-clause-ring_order
returns-in_err-push_nodes-clause-ring_order c = in_order (next_of c.args.chip.now)

pub returns-in_err-push_rings-clause-largest : goal.returns-in_err-push_rings-clause-largest
returns-in_err-push_rings-clause-largest c = largest c.args.chip.now c.legal.ensures

pub returns-in_err-push_rings-clause-rings : goal.returns-in_err-push_rings-clause-rings
returns-in_err-push_rings-clause-rings c = rings_are c.args.chip.now c.legal.ensures

pub returns-in_err-push_rings-clause-ring_order : goal.returns-in_err-push_rings-clause-ring_order
returns-in_err-push_rings-clause-ring_order c = in_order (next_of c.args.chip.now)

pub returns-clause-largest : goal.returns-clause-largest
returns-clause-largest c = largest c.args.chip.now c.legal.ensures

pub returns-clause-rings : goal.returns-clause-rings
returns-clause-rings c = rings_are c.args.chip.now c.legal.ensures

pub returns-clause-ring_order : goal.returns-clause-ring_order
returns-clause-ring_order c = in_order (next_of c.args.chip.now)
