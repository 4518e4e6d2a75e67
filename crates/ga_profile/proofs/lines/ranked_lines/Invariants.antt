use Rattle.std.proofs.Common.{◌≡◌}
use Rattle.std.specs.List.{flat_map, range_with_len}
use Rattle.ga_profile.specs.Lines.{line_at}
use Rattle.ga_profile.proofs.lines.ranked_lines.Given as goal

-- those of as many ranks
abbrev pub invariant-loop-rank : goal.invariant-loop-rank
invariant-loop-rank l =
    l.found.items ≡ flat_map (line_at l.paths l.lines) (range_with_len 0 l.rank)
