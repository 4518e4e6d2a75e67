use Rattle.std.proofs.Common.{◌≡◌, drop}
use Rattle.std.specs.List.{list_any}
use Rattle.ga_lint.specs.LeafReturns as spec
use Rattle.ga_lint.proofs.leaf_returns.has_call.Given as goal

-- no opcode so far is one
abbrev pub invariant-loop-op : goal.invariant-loop-op
invariant-loop-op l = list_any spec.is_call (drop l.op-index l.ops) ≡ list_any spec.is_call l.ops
