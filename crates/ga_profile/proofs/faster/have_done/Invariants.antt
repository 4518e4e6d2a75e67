use Rattle.std.proofs.Common.{◌≡◌, true, get_or, take}
use Rattle.std.specs.List.{list_all, range_with_len}
use Rattle.ga_place.specs.Cell.{name_at}
use Rattle.ga_profile.specs.Faster.{has_done}
use Rattle.ga_profile.proofs.faster.have_done.Given as goal

-- as many nodes have done theirs
abbrev pub invariant-loop-index : goal.invariant-loop-index
invariant-loop-index l =
    list_all (λ index. has_done (get_or l.goals index 0) l.chip (name_at index))
    (take l.index (range_with_len 0 144)) ≡ true
