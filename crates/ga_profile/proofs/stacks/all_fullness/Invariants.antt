use Rattle.std.proofs.Common.{◌≡◌, map}
use Rattle.std.specs.List.{range_with_len}
use Rattle.ga_profile.specs.Stacks.{fullness_at}
use Rattle.ga_profile.proofs.stacks.all_fullness.Given as goal

-- those of as many nodes
abbrev pub invariant-loop-index : goal.invariant-loop-index
invariant-loop-index l =
    l.all.items ≡ map (λ index. fullness_at l.nodes l.depths index) (range_with_len 0 l.index)
