use Rattle.std.proofs.Common.{◌≡◌, ◌+◌, ◌*◌, ◌^◌, true, false, None, arith}
use Rattle.std.proofs.lemmas.Grind.{common_steps}
use Rattle.ga_word.specs.Op.{fits_slot3, takes_dest}
use Rattle.ga_pack.proofs.MadeWords.{made_without_dest}
use Rattle.ga_pack.proofs.encoding.without_dest.Goals as goal

pub returns-clause-reading : goal.returns-clause-reading
returns-clause-reading c =
    let none_first : takes_dest c.args.a ≡ false = cc in
    let none_second : takes_dest c.args.b ≡ false = cc in
    let none_third : takes_dest c.args.c ≡ false = cc in
    let fits : fits_slot3 c.args.d ≡ true = cc in
    let is : c.unwrap.result ≡ ((c.slot0_bits.result * 2 ^ 5 + c.slot1_bits.result) * 2 ^ 5
    + c.slot2_bits.result) * 2 ^ 3 + c.slot3_bits.result =
    grind (arith, common_steps) in
    let no_dest : c.args.dest ≡ None = grind (arith, common_steps) in
    let spare : c.args.spare ≡ 0 = omega arith in
    rw (no_dest, spare)
    (made_without_dest c.unwrap.result c.slot0_bits.result c.slot1_bits.result c.slot2_bits.result
    c.slot3_bits.result
    c.args.a c.args.b c.args.c c.args.d none_first none_second none_third fits
    c.slot0_bits.ensures.bits c.slot1_bits.ensures.bits c.slot2_bits.ensures.bits
    c.slot3_bits.ensures.bits
    (omega arith) (omega arith) (omega arith) is)
