use Rattle.ga_chip.proofs.Bits.{no_bits}
use Rattle.ga_chip.proofs.breaks.Breaks.new.Goals as goal

pub returns : goal.returns
returns c = no_bits
