use Rattle.std.proofs.Common.{◌≡◌, ◌+◌, ◌<◌, ℕ}
use Rattle.ga_node.specs.Running.{own_run}
use Rattle.ga_node.specs.Spins.{uncounted}
use Rattle.ga_node.specs.inner.Ahead.{Repeats}
use Rattle.ga_node.proofs.state.NodeState.first_again.Given as goal

-- one copy is a period ahead of the other, and no state so far comes again
abbrev pub invariant-loop-made : goal.invariant-loop-made
invariant-loop-made l = record {
  state : l.state ≡ own_run l.made (uncounted l.fn.self);
  ahead : l.ahead ≡ own_run (l.made + l.fn.period) (uncounted l.fn.self);
  before : (steps : ℕ) → steps < l.made → Repeats l.fn.self l.fn.period steps → ⊥;
}
