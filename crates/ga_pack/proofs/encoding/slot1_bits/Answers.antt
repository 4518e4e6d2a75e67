use Rattle.ga_pack.proofs.StoredOpcodes.{key1, stored-coded}
use Rattle.ga_pack.proofs.encoding.slot1_bits.Goals as goal

pub returns-clause-bits : goal.returns-clause-bits
returns-clause-bits c = stored-coded 1 0x15 key1 c.args.op c.from.result cc
