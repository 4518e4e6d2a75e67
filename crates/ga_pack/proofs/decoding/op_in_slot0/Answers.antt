use Rattle.std.proofs.Common.{◌/◌, ◌^◌, lit<}
use Rattle.std.proofs.lemmas.Nat.{shr_below, xor_lt}
use Rattle.ga_pack.proofs.StoredOpcodes.{key0, stored-field}
use Rattle.ga_pack.proofs.decoding.op_in_slot0.Goals as goal

pub op_with_code-requires : goal.op_with_code-requires
op_with_code-requires c =
    xor_lt 5 (c.get.result / 2 ^ 13) 0x0A (shr_below c.get.result 5 13 c.get.ensures.bound)
    (lit< tt)

pub returns-clause-bits : goal.returns-clause-bits
returns-clause-bits c =
    rw (← c.get.ensures.value) (stored-field 0 0x0A key0 c.op_with_code.result
    (c.get.result / 2 ^ 13) c.op_with_code.ensures.code)
