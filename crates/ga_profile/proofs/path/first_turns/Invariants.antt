use Rattle.std.proofs.Common.{◌≡◌, get_or, map}
use Rattle.std.specs.List.{range_with_len}
use Rattle.ga_profile.proofs.path.first_turns.Given as goal

-- those of as many kinds
abbrev pub invariant-loop-kind : goal.invariant-loop-kind
invariant-loop-kind l =
    l.turns.items ≡ map (λ kind. get_or l.trail.turns kind 0) (range_with_len 0 l.kind)
