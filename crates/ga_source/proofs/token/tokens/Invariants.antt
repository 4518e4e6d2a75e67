use Rattle.std.proofs.Common.{length}
use Rattle.ga_source.proofs.Walking.{HasWalked}
use Rattle.ga_source.proofs.token.tokens.Given as goal

abbrev pub invariant-loop-run : goal.invariant-loop-run
invariant-loop-run l = HasWalked l.text l.place.line l.place.column l.rest l.tokens.items

abbrev pub decreases-loop-run : goal.decreases-loop-run
decreases-loop-run l = length l.rest
