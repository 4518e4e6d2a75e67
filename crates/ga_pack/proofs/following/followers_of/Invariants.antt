use Rattle.std.proofs.Common.{◌≡◌, ◌≤◌, ◌+◌, drop}
use Rattle.ga_pack.specs.Followers.{followers}
use Rattle.ga_pack.proofs.following.followers_of.Given as goal

-- what has been counted, and what the opcodes from the index on count
abbrev pub invariant-loop-op : goal.invariant-loop-op
invariant-loop-op l =
    (followers l.ops ≡ l.count + followers (drop l.op-index l.ops)) × (l.count ≤ l.op-index)
