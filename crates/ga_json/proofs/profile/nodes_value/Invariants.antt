use Rattle.std.proofs.Common.{◌≡◌, map}
use Rattle.std.specs.List.{flat_map, range_with_len}
use Rattle.serde_json.specs.View.{view}
use Rattle.ga_json.specs.Profile.{node_at}
use Rattle.ga_json.proofs.profile.nodes_value.Given as goal

-- as many nodes are done
abbrev pub invariant-loop-index : goal.invariant-loop-index
invariant-loop-index l =
    map view l.nodes.items ≡ flat_map (node_at l.profile) (range_with_len 0 l.index)
