use Rattle.std.proofs.Common.{◌<◌, ◌^◌, arith, rules}
use Rattle.std.proofs.lemmas.Nat.{xor_lt}
use Rattle.ga_views.proofs.race_text.port_of.Goals as goal

pub returns-clause-bound : goal.returns-clause-bound
returns-clause-bound c =
    let few : c.from.result < 2 ^ 9 =
    omega (arith, c.from.ensures, c.bits.type_inv) in
    xor_lt 9 0x155 c.from.result (omega arith) few
