use Rattle.ga_pack.proofs.StoredOpcodes.{stored_upper-coded}
use Rattle.ga_pack.proofs.encoding.slot3_bits.Goals as goal

pub returns-clause-bits : goal.returns-clause-bits
returns-clause-bits c = stored_upper-coded c.args.op c.from.result cc
