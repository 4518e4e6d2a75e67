use Rattle.std.proofs.Common.{◌≡◌, ◌-◌, ◌*◌, ◌≤◌}
use Rattle.ga_debug.specs.Until.{until_from}
use Rattle.ga_debug.proofs.until.turns_until.Given as goal

-- it rests with the turns that are left
abbrev pub invariant-loop-turns : goal.invariant-loop-turns
invariant-loop-turns l =
    (until_from (l.count - l.turns) l.turns l.moved l.left l.node l.address l.chip
    ≡ until_from l.count 0 0 l.passes l.node l.address l.initial.chip)
    × (l.moved ≤ 255 * l.turns)
