use Rattle.ga_chip.proofs.Largest.{all_hold}
use Rattle.ga_chip.proofs.stuck.stuck_nodes.Goals as goal

pub loop-init : goal.loop-init
loop-init c = all_hold _ c.requires

pub loop-preserved : goal.loop-preserved
loop-preserved c = c.leave_out.ensures.holds c.loop.invariant

pub returns-clause-largest : goal.returns-clause-largest
returns-clause-largest c = c.leave_out.ensures.holds c.loop.invariant
