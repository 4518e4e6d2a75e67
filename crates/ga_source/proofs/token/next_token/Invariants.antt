use Rattle.std.proofs.Common.{length}
use Rattle.ga_source.proofs.Walking.{Behind}
use Rattle.ga_source.proofs.token.next_token.Given as goal

abbrev pub invariant-loop-run : goal.invariant-loop-run
invariant-loop-run l = Behind l.text l.rest

abbrev pub decreases-loop-run : goal.decreases-loop-run
decreases-loop-run l = length l.rest
