use Rattle.std.proofs.Common.{◌≡◌, drop}
use Rattle.ga_lint.specs.LeafReturns as spec
use Rattle.ga_lint.proofs.leaf_returns.strays_in.Given as goal

-- what is left of the word
abbrev pub invariant-loop-op : goal.invariant-loop-op
invariant-loop-op l =
    spec.strays_in l.depth (drop l.op-index l.ops) ≡ spec.strays_in l.fn.before l.ops
