use Rattle.std.proofs.Common.{◌≡◌, ℕ, ◌*◌, ◌<◌, ◌≤◌, false}
use Rattle.ga_chip.specs.inner.Awake.{is_in}
use Rattle.ga_chip.proofs.node_set.NodeSet.next.Given as goal

-- no node was found so far
abbrev pub invariant-loop-at : goal.invariant-loop-at
invariant-loop-at l = (other : ℕ) → l.from ≤ other → other < l.at * 64 → is_in other l.self ≡ false
