use Rattle.std.proofs.Common.{◌≡◌, ℕ, ◌*◌, ◌^◌, ◌<◌, arith, lit<}
use Rattle.std.specs.Prelude.{bit_and, bit_xor}
use Rattle.std.proofs.lemmas.Nat.{and_le_r, xor_lt}
use Rattle.ga_word.specs.Op.{code_of}
use Rattle.ga_pack.proofs.StoredOpcodes.{stored_upper-masked}
use Rattle.ga_pack.proofs.decoding.op_in_slot3.Goals as goal

three_bits : (n : ℕ) → bit_xor (bit_and n 7) 5 < 2 ^ 3
three_bits n = xor_lt 3 (bit_and n 7) 5 (let below = and_le_r n 7 in omega arith) (lit< tt)

pub op_with_code-requires : goal.op_with_code-requires
op_with_code-requires c = let small = three_bits c.get.result in omega arith

pub returns-clause-bits : goal.returns-clause-bits
returns-clause-bits c =
    let small = three_bits c.get.result in
    let code : code_of c.op_with_code.result ≡ bit_xor (bit_and c.get.result 7) 5 * 4 =
    omega arith in
    rw (← c.get.ensures.value) (stored_upper-masked c.op_with_code.result c.get.result code)
