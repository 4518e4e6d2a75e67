use Rattle.std.proofs.Common.{◌≡◌, ◌<◌}
use Rattle.ga_profile.specs.Path as path
use Rattle.ga_report.proofs.holders.last_node.Given as goal

-- that of as many nodes
abbrev pub invariant-loop-index : goal.invariant-loop-index
invariant-loop-index l = record {
  latest : l.latest ≡ path.last_node l.nodes l.index;
  bound : l.latest < 144;
}
