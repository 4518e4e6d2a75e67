use Rattle.ga_expand.proofs.Numerals.{ReadsDigits}
use Rattle.ga_expand.proofs.literal.numeral.Given as goal

abbrev pub invariant-loop-byte : goal.invariant-loop-byte
invariant-loop-byte l = ReadsDigits l.radix l.digits l.byte-index l.number
