use Rattle.std.proofs.Common.{◌≡◌, map, string_bytes}
use Rattle.std.specs.List.{flat_map, range_with_len}
use Rattle.ga_profile.specs.Alike.{group_at}
use Rattle.ga_profile.proofs.alike.ranked_groups.Given as goal

-- those of as many ranks
abbrev pub invariant-loop-rank : goal.invariant-loop-rank
invariant-loop-rank l =
    l.found.items
    ≡ flat_map (group_at (map string_bytes l.codes) l.paths l.turns) (range_with_len 0 l.rank)
