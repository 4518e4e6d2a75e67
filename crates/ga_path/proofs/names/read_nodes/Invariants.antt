use Rattle.std.proofs.Common.{◌≡◌, ◌++◌, option_map, length}
use Rattle.ga_path.specs.Names.{nodes_in}
use Rattle.ga_path.proofs.names.read_nodes.Given as goal

-- the nodes are those so far, and those that the rest of the text names
abbrev pub invariant-loop-rest : goal.invariant-loop-rest
invariant-loop-rest l =
    nodes_in l.text ≡ option_map (λ more. l.nodes.items ++ more) (nodes_in l.rest)

-- what is left of the text
abbrev pub decreases-loop-rest : goal.decreases-loop-rest
decreases-loop-rest l = length l.rest
