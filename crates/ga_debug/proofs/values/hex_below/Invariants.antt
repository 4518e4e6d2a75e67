use Rattle.ga_debug.proofs.HexDigits.{HexSoFar}
use Rattle.ga_debug.proofs.values.hex_below.Given as goal

abbrev pub invariant-loop-digit : goal.invariant-loop-digit
invariant-loop-digit l = HexSoFar l.word l.digit-index l.number
