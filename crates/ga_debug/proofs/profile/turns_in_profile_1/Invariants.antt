use Rattle.std.proofs.Common.{◌≡◌, ◌-◌, ◌*◌, ◌<◌, ◌≤◌}
use Rattle.ga_debug.specs.Profile.{turns_in_profile_1}
use Rattle.ga_debug.proofs.ProfileTurns.{AreIdle}
use Rattle.ga_debug.proofs.profile.turns_in_profile_1.Given as goal

-- it rests with the turns that are left, and of the next four sides the last made no step
abbrev pub invariant-loop-turn : goal.invariant-loop-turn
invariant-loop-turn l =
    (turns_in_profile_1 (l.count - l.turn) l.turn l.moved l.chip
    ≡ turns_in_profile_1 l.count 0 0 l.initial.chip)
    × (l.moved ≤ 255 * l.turn)
    × (l.idle < 4)
    × AreIdle l.chip l.turn l.idle
