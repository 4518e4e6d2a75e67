use Rattle.std.proofs.Common.{◌≡◌, get_or, map}
use Rattle.std.specs.List.{range_with_len}
use Rattle.ga_place.specs.Cell.{name_at}
use Rattle.ga_profile.specs.Faster.{goal_of}
use Rattle.ga_profile.specs.NodeTurns.{NO_TURNS}
use Rattle.ga_profile.proofs.faster.goals_of.Given as goal

-- those of as many nodes
abbrev pub invariant-loop-index : goal.invariant-loop-index
invariant-loop-index l =
    l.goals.items
    ≡ map (λ index. goal_of l.chip (name_at index) (get_or l.nodes index NO_TURNS))
    (range_with_len 0 l.index)
