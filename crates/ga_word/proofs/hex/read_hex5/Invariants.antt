use Rattle.ga_word.proofs.HexDigits.{WritesSoFar}
use Rattle.ga_word.proofs.hex.read_hex5.Given as goal

abbrev pub invariant-loop-byte : goal.invariant-loop-byte
invariant-loop-byte l = WritesSoFar l.text l.byte-index l.number
