use Rattle.std.proofs.Common.{◌≡◌, ◌+◌, ◌*◌, ◌^◌, true, arith}
use Rattle.std.proofs.lemmas.Grind.{common_steps}
use Rattle.ga_word.specs.Op.{takes_dest}
use Rattle.ga_pack.proofs.MadeWords.{made_behind_slot0}
use Rattle.ga_pack.proofs.encoding.with_dest_behind_slot0.Goals as goal

pub returns-clause-reading : goal.returns-clause-reading
returns-clause-reading c =
    let takes : takes_dest c.args.op ≡ true = cc in
    let is : c.unwrap.result ≡ (c.slot0_bits.result * 2 ^ 3 + c.args.spare) * 2 ^ 10
    + c.in-Some.dest = grind (arith, common_steps) in
    rw c.in-Some.is
    (made_behind_slot0 c.unwrap.result c.slot0_bits.result c.args.spare c.in-Some.dest c.args.op
    takes
    c.slot0_bits.ensures.bits (omega arith) (omega arith) is)
