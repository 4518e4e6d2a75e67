use Rattle.std.proofs.Common.{◌≡◌, ◌≤◌, ℕ}
use Rattle.ga_node.specs.Running.{own_run}
use Rattle.ga_node.specs.Spins.{OwnFor, uncounted}
use Rattle.ga_node.proofs.state.NodeState.period.Given as goal

-- the copy is behind as many own steps, and none of them but the first state is again as the node
abbrev pub invariant-loop-made : goal.invariant-loop-made
invariant-loop-made l = record {
  copy : l.copy ≡ own_run l.made (uncounted l.fn.self);
  own : OwnFor l.made (uncounted l.fn.self);
  none : (steps : ℕ) → 1 ≤ steps → steps ≤ l.made
      → uncounted (own_run steps (uncounted l.fn.self)) ≡ uncounted l.fn.self → ⊥;
}
