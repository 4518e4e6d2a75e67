use Rattle.std.proofs.Common.{◌≡◌, ◌<◌, get_or, length, ℕ}
use Rattle.ga_profile.specs.Rank.{rank_of}
use Rattle.ga_profile.proofs.lines.node_ranks.Given as goal

-- those of as many nodes
abbrev pub invariant-loop-index : goal.invariant-loop-index
invariant-loop-index l = record {
  all : length l.ranks ≡ 144;
  each : (index : ℕ) → index < l.index → get_or l.ranks index 0 ≡ rank_of l.paths index;
}
