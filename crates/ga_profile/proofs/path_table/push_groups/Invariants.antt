use Rattle.std.proofs.Common.{◌≡◌, ◌++◌, codes, drop, string_bytes}
use Rattle.std.specs.List.{flat_map}
use Rattle.ga_waits.specs.Label.{images_in}
use Rattle.ga_profile.specs.PathTable.{group_row}
use Rattle.ga_profile.proofs.path_table.push_groups.Given as goal

-- what is written, and the groups that are left
abbrev pub invariant-loop-group : goal.invariant-loop-group
invariant-loop-group l =
    string_bytes l.text
    ++ flat_map (group_row (images_in l.images) l.turns) (drop l.group-index l.groups)
    ≡ (string_bytes l.fn.text ++ codes "path  node     word  where the path goes\n")
    ++ flat_map (group_row (images_in l.images) l.turns) l.groups
