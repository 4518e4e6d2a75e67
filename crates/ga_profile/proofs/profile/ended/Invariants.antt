use Rattle.std.proofs.Common.{◌≡◌, get_or, map}
use Rattle.std.specs.List.{range_with_len}
use Rattle.ga_place.specs.Cell.{name_at}
use Rattle.ga_chip.specs.Chip.{state_of}
use Rattle.ga_profile.specs.NodeTurns.{NO_TURNS}
use Rattle.ga_profile.specs.Profile.{with_end}
use Rattle.ga_profile.proofs.profile.ended.Given as goal

-- those of as many nodes
abbrev pub invariant-loop-index : goal.invariant-loop-index
invariant-loop-index l =
    l.all.items
    ≡ map (λ index. with_end l.window (get_or l.nodes index NO_TURNS)
    (state_of l.chip (name_at index))) (range_with_len 0 l.index)
