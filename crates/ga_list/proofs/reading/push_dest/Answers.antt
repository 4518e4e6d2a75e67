use Rattle.std.proofs.Common.{refl, arith}
use Rattle.ga_word.proofs.HexFormat.{padded_hex}
use Rattle.ga_asm.specs.Image.{labels_of}
use Rattle.ga_list.proofs.Writing.{by_number}
use Rattle.ga_list.proofs.reading.push_dest.Goals as goal

pub returns-in_ok-write-in-None : goal.returns-in_ok-write-in-None
returns-in_ok-write-in-None c =
    let wrote =
    rw (c.in_radix.ensures, c.laid_out.ensures) at c.in_ok-write-in-None.ensures.bytes in
    by_number (labels_of c.args.labels.now.entries) c.args.target c.args.dest _ _ _
    c.in-None.ensures
    (padded_hex 4 c.args.dest 63 refl (omega arith) (omega arith)) wrote
