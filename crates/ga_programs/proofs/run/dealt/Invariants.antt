use Rattle.std.proofs.Common.{◌≡◌, map}
use Rattle.std.specs.List.{range_with_len}
use Rattle.ga_group.specs.Plan.{groups_of}
use Rattle.ga_programs.specs.Run.{nodes_for}
use Rattle.ga_programs.proofs.run.dealt.Given as goal

-- the groups of the workers so far
abbrev pub invariant-loop-worker : goal.invariant-loop-worker
invariant-loop-worker l =
    groups_of l.groups
    ≡ map (λ worker. nodes_for l.workers worker 0 l.nodes) (range_with_len 0 l.worker)
