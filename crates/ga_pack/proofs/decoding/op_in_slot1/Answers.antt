use Rattle.std.proofs.Common.{◌/◌, ◌^◌}
use Rattle.ga_pack.proofs.StoredOpcodes.{key1, masked-below, stored-masked}
use Rattle.ga_pack.proofs.decoding.op_in_slot1.Goals as goal

pub op_with_code-requires : goal.op_with_code-requires
op_with_code-requires c = masked-below 1 0x15 key1 (c.get.result / 2 ^ 8)

pub returns-clause-bits : goal.returns-clause-bits
returns-clause-bits c =
    rw (← c.get.ensures.value) (stored-masked 1 0x15 key1 c.op_with_code.result
    (c.get.result / 2 ^ 8) c.op_with_code.ensures.code)
