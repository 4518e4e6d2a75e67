use Rattle.std.proofs.Common.{◌≡◌, ◌+◌, ◌*◌, ◌^◌, true, false, arith}
use Rattle.std.proofs.lemmas.Grind.{common_steps}
use Rattle.ga_word.specs.Op.{takes_dest}
use Rattle.ga_pack.proofs.MadeWords.{made_behind_slot2}
use Rattle.ga_pack.proofs.encoding.with_dest_behind_slot2.Goals as goal

pub returns-clause-reading : goal.returns-clause-reading
returns-clause-reading c =
    let none_first : takes_dest c.args.a ≡ false = cc in
    let none_second : takes_dest c.args.b ≡ false = cc in
    let takes : takes_dest c.args.op ≡ true = cc in
    let is : c.unwrap.result ≡ ((c.slot0_bits.result * 2 ^ 5 + c.slot1_bits.result) * 2 ^ 5
    + c.slot2_bits.result) * 2 ^ 3 + c.in-Some.dest =
    grind (arith, common_steps) in
    let spare : c.args.spare ≡ 0 = omega arith in
    rw (c.in-Some.is, spare)
    (made_behind_slot2 c.unwrap.result c.slot0_bits.result c.slot1_bits.result c.slot2_bits.result
    c.in-Some.dest
    c.args.a c.args.b c.args.op none_first none_second takes
    c.slot0_bits.ensures.bits c.slot1_bits.ensures.bits c.slot2_bits.ensures.bits (omega arith)
    (omega arith) (omega arith) is)
