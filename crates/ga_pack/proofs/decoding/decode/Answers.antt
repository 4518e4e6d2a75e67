use Rattle.std.proofs.Common.{◌≡◌, true, false}
use Rattle.ga_word.specs.Op.{takes_dest}
use Rattle.ga_pack.proofs.OneReading.{only_reading}
use Rattle.ga_pack.proofs.Spellings.{reads_after_slot0, reads_after_slot1, reads_after_slot2, reads_no_dest}
use Rattle.ga_pack.proofs.decoding.decode.Goals as goal

pub returns-then-takes_dest-clause-reading : goal.returns-then-takes_dest-clause-reading
returns-then-takes_dest-clause-reading c =
    let takes : takes_dest c.op_in_slot0-first.result ≡ true = cc in
    rw (c.get-number.ensures.value, c.push.ensures.items, c.new-ops.ensures)
    (reads_after_slot0 c.args.word c.op_in_slot0-first.result takes
    c.op_in_slot0-first.ensures.bits)

pub returns-then-takes_dest-clause-only : goal.returns-then-takes_dest-clause-only
returns-then-takes_dest-clause-only c = only_reading (returns-then-takes_dest-clause-reading c)

pub returns-then-takes_dest-2-clause-reading : goal.returns-then-takes_dest-2-clause-reading
returns-then-takes_dest-2-clause-reading c =
    let none : takes_dest c.op_in_slot0-first.result ≡ false = cc in
    let takes : takes_dest c.op_in_slot1-second.result ≡ true = cc in
    rw (c.get-number.ensures.value, c.push-2.ensures.items, c.push.ensures.items, c.new-ops.ensures)
    (reads_after_slot1 c.args.word c.op_in_slot0-first.result c.op_in_slot1-second.result none takes
    c.op_in_slot0-first.ensures.bits c.op_in_slot1-second.ensures.bits)

pub returns-then-takes_dest-2-clause-only : goal.returns-then-takes_dest-2-clause-only
returns-then-takes_dest-2-clause-only c = only_reading (returns-then-takes_dest-2-clause-reading c)

pub returns-then-takes_dest-3-clause-reading : goal.returns-then-takes_dest-3-clause-reading
returns-then-takes_dest-3-clause-reading c =
    let none_first : takes_dest c.op_in_slot0-first.result ≡ false = cc in
    let none_second : takes_dest c.op_in_slot1-second.result ≡ false = cc in
    let takes : takes_dest c.op_in_slot2-third.result ≡ true = cc in
    rw (
      c.get-number.ensures.value,
      c.push-3.ensures.items,
      c.push-2.ensures.items,
      c.push.ensures.items,
      c.new-ops.ensures,
    )
    (reads_after_slot2 c.args.word c.op_in_slot0-first.result c.op_in_slot1-second.result
    c.op_in_slot2-third.result
    none_first none_second takes
    c.op_in_slot0-first.ensures.bits c.op_in_slot1-second.ensures.bits
    c.op_in_slot2-third.ensures.bits)

pub returns-then-takes_dest-3-clause-only : goal.returns-then-takes_dest-3-clause-only
returns-then-takes_dest-3-clause-only c = only_reading (returns-then-takes_dest-3-clause-reading c)

pub returns-clause-reading : goal.returns-clause-reading
returns-clause-reading c =
    let none_first : takes_dest c.op_in_slot0-first.result ≡ false = cc in
    let none_second : takes_dest c.op_in_slot1-second.result ≡ false = cc in
    let none_third : takes_dest c.op_in_slot2-third.result ≡ false = cc in
    rw (
      c.push-4.ensures.items,
      c.push-3.ensures.items,
      c.push-2.ensures.items,
      c.push.ensures.items,
      c.new-ops.ensures,
    )
    (reads_no_dest c.args.word c.op_in_slot0-first.result c.op_in_slot1-second.result
    c.op_in_slot2-third.result c.op_in_slot3.result
    none_first none_second none_third c.op_in_slot3.ensures.fits
    c.op_in_slot0-first.ensures.bits c.op_in_slot1-second.ensures.bits
    c.op_in_slot2-third.ensures.bits c.op_in_slot3.ensures.bits)

pub returns-clause-only : goal.returns-clause-only
returns-clause-only c = only_reading (returns-clause-reading c)
