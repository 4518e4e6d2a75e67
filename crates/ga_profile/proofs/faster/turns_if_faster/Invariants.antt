use Rattle.std.proofs.Common.{◌≡◌, ◌-◌}
use Rattle.ga_profile.specs.Faster as spec
use Rattle.ga_profile.proofs.faster.turns_if_faster.Given as goal

-- the answer is that of the turns that are left
abbrev pub invariant-loop-made : goal.invariant-loop-made
invariant-loop-made l =
    spec.turns_if_faster (l.most - l.made) l.made l.first l.node l.goals l.chip
    ≡ spec.turns_if_faster l.most 0 l.first l.node l.goals l.initial.chip
