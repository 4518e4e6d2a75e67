use Rattle.std.proofs.Common.{◌≡◌, string_bytes}
use Rattle.std.specs.List.{flat_map, range_with_len}
use Rattle.ga_waits.specs.Label.{images_in}
use Rattle.ga_profile.specs.Stacks.{all_fullness, stack_row_at}
use Rattle.ga_profile.proofs.stacks.stack_rows.Given as goal

-- the rows of as many ranks are written
abbrev pub invariant-loop-rank : goal.invariant-loop-rank
invariant-loop-rank l =
    string_bytes l.rows
    ≡ flat_map (stack_row_at (images_in l.images) (all_fullness l.nodes l.depths) l.depths)
    (range_with_len 0 l.rank)
