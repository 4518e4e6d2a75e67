use Rattle.ga_pack.proofs.StoredOpcodes.{key2, stored-coded}
use Rattle.ga_pack.proofs.encoding.slot2_bits.Goals as goal

pub returns-clause-bits : goal.returns-clause-bits
returns-clause-bits c = stored-coded 2 0x0A key2 c.args.op c.from.result cc
