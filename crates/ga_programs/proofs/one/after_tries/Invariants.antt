use Rattle.std.proofs.Common.{◌≡◌}
use Rattle.ga_node.specs.Slot.{after_tries}
use Rattle.ga_programs.proofs.one.after_tries.Given as goal

abbrev pub invariant-loop : goal.invariant-loop
invariant-loop l = l.state ≡ after_tries l.counter l.initial.state
