use Rattle.std.proofs.Common.{◌≡◌, ◌++◌, drop, string_bytes}
use Rattle.std.specs.List.{flat_map}
use Rattle.ga_wave.specs.Save.{saved_node}
use Rattle.ga_wave.proofs.save.push_nodes.Given as goal

-- what is written, and the lines of the nodes that are left
abbrev pub invariant-loop-node : goal.invariant-loop-node
invariant-loop-node l =
    string_bytes l.text ++ flat_map saved_node (drop l.node-index l.nodes)
    ≡ string_bytes l.initial.text ++ flat_map saved_node l.nodes
