use Rattle.ga_debug.proofs.Digits.{NumberSoFar}
use Rattle.ga_debug.proofs.word.decimal_of.Given as goal

abbrev pub invariant-loop-digit : goal.invariant-loop-digit
invariant-loop-digit l = NumberSoFar l.word l.digit-index l.number
