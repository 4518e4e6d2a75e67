use Rattle.std.proofs.Common.{length}
use Rattle.ga_path.proofs.branches.+chain.Given as goal

-- the nodes that are left
abbrev pub decreases-chain : goal.decreases-chain
decreases-chain l = length l.nodes.now
