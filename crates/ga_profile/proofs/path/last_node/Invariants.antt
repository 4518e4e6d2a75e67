use Rattle.std.proofs.Common.{◌≡◌, ◌<◌}
use Rattle.ga_profile.specs.Path as spec
use Rattle.ga_profile.proofs.path.last_node.Given as goal

-- that of as many nodes
abbrev pub invariant-loop-index : goal.invariant-loop-index
invariant-loop-index l = record {
  latest : l.latest ≡ spec.last_node l.nodes l.index;
  bound : l.latest < 144;
}
