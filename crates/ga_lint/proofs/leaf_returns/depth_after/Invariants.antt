use Rattle.std.proofs.Common.{◌≡◌, drop}
use Rattle.ga_lint.specs.LeafReturns as spec
use Rattle.ga_lint.proofs.leaf_returns.depth_after.Given as goal

-- what is left of the word
abbrev pub invariant-loop-op : goal.invariant-loop-op
invariant-loop-op l =
    spec.depth_after l.depth (drop l.op-index l.ops) ≡ spec.depth_after l.fn.before l.ops
