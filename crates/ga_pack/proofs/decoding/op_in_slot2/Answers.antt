use Rattle.std.proofs.Common.{◌/◌, ◌^◌}
use Rattle.ga_pack.proofs.StoredOpcodes.{key2, masked-below, stored-masked}
use Rattle.ga_pack.proofs.decoding.op_in_slot2.Goals as goal

pub op_with_code-requires : goal.op_with_code-requires
op_with_code-requires c = masked-below 2 0x0A key2 (c.get.result / 2 ^ 3)

pub returns-clause-bits : goal.returns-clause-bits
returns-clause-bits c =
    rw (← c.get.ensures.value) (stored-masked 2 0x0A key2 c.op_with_code.result
    (c.get.result / 2 ^ 3) c.op_with_code.ensures.code)
