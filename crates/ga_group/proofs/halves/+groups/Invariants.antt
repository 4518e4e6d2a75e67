use Rattle.std.proofs.Common.{◌+◌, ◌-◌, ◌*◌, length}
use Rattle.ga_group.proofs.halves.+groups.Given as goal

abbrev pub decreases-work_groups : goal.decreases-work_groups
decreases-work_groups g l = 4 * length l.groups.now

abbrev pub decreases-both_halves : goal.decreases-both_halves
decreases-both_halves g l = 4 * (length l.left.now + length l.right.now) - 1

abbrev pub decreases-both_halves-front : goal.decreases-both_halves-front
decreases-both_halves-front g l = 4 * length l.left.now + 1

abbrev pub decreases-both_halves-back : goal.decreases-both_halves-back
decreases-both_halves-back g l = 4 * length l.right.now + 1
