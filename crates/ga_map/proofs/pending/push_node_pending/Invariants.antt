use Rattle.std.proofs.Common.{◌≡◌, ◌++◌, drop, string_bytes}
use Rattle.std.specs.List.{flat_map}
use Rattle.ga_place.specs.Side.{SIDES}
use Rattle.ga_waits.specs.Label.{images_in}
use Rattle.ga_map.specs.Pending.{side_pending}
use Rattle.ga_map.proofs.pending.push_node_pending.Given as goal

-- what is written, and the lines of the sides that are left
abbrev pub invariant-loop-side : goal.invariant-loop-side
invariant-loop-side l =
    string_bytes l.text
    ++ flat_map (side_pending (images_in l.images) l.chip l.node) (drop l.side-index l.side-items)
    ≡ string_bytes l.initial.text
    ++ flat_map (side_pending (images_in l.images) l.chip l.node) SIDES
