use Rattle.std.proofs.Common.{◌≡◌, ◌<◌}
use Rattle.ga_profile.specs.Bottleneck as spec
use Rattle.ga_profile.proofs.bottleneck.most_on_path.Given as goal

-- that of as many nodes
abbrev pub invariant-loop-index : goal.invariant-loop-index
invariant-loop-index l = record {
  most : l.most ≡ spec.most_on_path l.paths l.index;
  bound : l.most < 144;
}
