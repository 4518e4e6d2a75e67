use Rattle.std.proofs.Common.{◌≡◌}
use Rattle.ga_node.specs.Running.{own_run}
use Rattle.ga_node.specs.Spins.{uncounted}
use Rattle.ga_chip.specs.Run.{has_break}
use Rattle.ga_trace.proofs.Unbroken.{AllUnbroken}
use Rattle.ga_trace.proofs.spin_watch.are_unbroken.Given as goal

-- the copy is behind as many own steps, none of which began at a breakpoint
abbrev pub invariant-loop-made : goal.invariant-loop-made
invariant-loop-made l = record {
  copy : l.copy ≡ own_run l._made (uncounted l.state);
  unbroken : AllUnbroken (has_break l.chip l.node) l._made l.state;
}
