use Rattle.std.proofs.Common.{◌≡◌, ◌-◌, ◌≤◌}
use Rattle.ga_debug.specs.Profile.{tries_in_profile_1}
use Rattle.ga_debug.proofs.profile.turn_in_profile_1.Given as goal

-- it rests with the nodes that are left
abbrev pub invariant-loop-index : goal.invariant-loop-index
invariant-loop-index l =
    (tries_in_profile_1 (144 - l.index) l.index l.side l.moved l.chip
    ≡ tries_in_profile_1 144 0 l.side 0 l.initial.chip) × (l.moved ≤ l.index)
