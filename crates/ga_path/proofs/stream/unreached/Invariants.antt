use Rattle.std.proofs.Common.{◌≡◌}
use Rattle.ga_path.specs.Stream.{unreached}
use Rattle.ga_path.proofs.stream.unreached.Given as goal

-- the first one is among those that are left
abbrev pub invariant-loop-node : goal.invariant-loop-node
invariant-loop-node l = unreached l.node-iterator l.nodes ≡ unreached l.images l.nodes
