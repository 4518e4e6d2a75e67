use Rattle.std.proofs.Common.{◌≡◌, ◌++◌, drop}
use Rattle.ga_programs.specs.Run.{nodes_for}
use Rattle.ga_programs.proofs.run.nodes_for.Given as goal

-- the nodes so far, and those among the nodes that are left
abbrev pub invariant-loop-at : goal.invariant-loop-at
invariant-loop-at l =
    l.group.items ++ nodes_for l.workers l.worker l.at (drop l.at l.nodes)
    ≡ nodes_for l.workers l.worker 0 l.nodes
