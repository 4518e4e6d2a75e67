use Rattle.std.proofs.Common.{refl, arith}
use Rattle.ga_word.proofs.HexFormat.{padded_hex}
use Rattle.ga_disasm.proofs.Writing.{field_alone, field_and_spare}
use Rattle.ga_disasm.proofs.printing.push_field.Goals as goal

pub returns-in_ok-write-2 : goal.returns-in_ok-write-2
returns-in_ok-write-2 c =
    let wrote = rw (c.in_radix.ensures, c.laid_out.ensures) at c.in_ok-write.ensures.bytes in
    field_and_spare _ _ _ _ c.args.dest c.args.spare (padded_hex 4 c.args.dest 63 refl (omega arith)
    (omega arith)) c.if-spare-ne0.true wrote c.in_ok-write-2.ensures.bytes

pub returns-else-spare-ne0 : goal.returns-else-spare-ne0
returns-else-spare-ne0 c =
    let wrote = rw (c.in_radix.ensures, c.laid_out.ensures) at c.in_ok-write.ensures.bytes in
    field_alone _ _ _ c.args.dest c.args.spare
    (padded_hex 4 c.args.dest 63 refl (omega arith) (omega arith)) c.if-spare-ne0.false wrote
