use Rattle.std.proofs.Common.{◌≡◌, ◌++◌, drop, map}
use Rattle.serde_json.specs.View.{view}
use Rattle.ga_json.specs.Profile.{name_data}
use Rattle.ga_json.proofs.profile.stuck_value.Given as goal

-- what is done, and the names that are left
abbrev pub invariant-loop-node : goal.invariant-loop-node
invariant-loop-node l =
    map view l.names.items ++ map name_data (drop l.node-index l.node-items)
    ≡ map name_data l.node-items
