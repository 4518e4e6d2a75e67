use Rattle.ga_pack.proofs.StoredOpcodes.{key0, stored-coded}
use Rattle.ga_pack.proofs.encoding.slot0_bits.Goals as goal

pub returns-clause-bits : goal.returns-clause-bits
returns-clause-bits c = stored-coded 0 0x0A key0 c.args.op c.from.result cc
