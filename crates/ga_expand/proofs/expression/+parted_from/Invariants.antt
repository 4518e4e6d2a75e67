use Rattle.std.proofs.Common.{length}
use Rattle.ga_expand.proofs.expression.+parted_from.Given as goal

abbrev pub decreases-parted_from : goal.decreases-parted_from
decreases-parted_from l = length l.text.now
