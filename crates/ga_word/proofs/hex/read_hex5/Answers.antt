use Rattle.std.proofs.Common.{◌<◌, ◌^◌, sym, ◌∙◌, arith}
use Rattle.ga_word.proofs.HexDigits.{word_of-other_length, word_of-other_character, word_of-written, writes_more, below_five_digits}
use Rattle.ga_word.proofs.hex.read_hex5.Goals as goal

pub returns-then-text-ne5 : goal.returns-then-text-ne5
returns-then-text-ne5 c = sym (word_of-other_length c.args.text.now c.if-text-ne5.true)

pub returns-in_err-digit : goal.returns-in_err-digit
returns-in_err-digit c =
    c.from_residual.ensures
    ∙ sym (word_of-other_character c.args.text.now c.loop-byte.byte-index c.from.result
    (omega arith) c.from.ensures c.in_err-digit.ensures.value)

pub overflow_mul-number : goal.overflow_mul-number
overflow_mul-number c =
    let small : c.loop-byte.number < 2 ^ 16 =
    below_five_digits _ c.loop-byte.byte-index (omega arith) c.loop-byte.invariant.small in
    omega arith

pub overflow_add-number : goal.overflow_add-number
overflow_add-number c =
    let small : c.loop-byte.number < 2 ^ 16 =
    below_five_digits _ c.loop-byte.byte-index (omega arith) c.loop-byte.invariant.small in
    omega (arith, c.in_ok-digit.ensures.value)

pub loop-byte-preserved : goal.loop-byte-preserved
loop-byte-preserved c =
    writes_more c.args.text.now c.loop-byte.byte-index c.loop-byte.number c.from.result
    c.in_ok-digit.digit (omega arith)
    c.loop-byte.invariant c.from.ensures c.in_ok-digit.ensures.value.0 c.in_ok-digit.ensures.value.1

pub returns : goal.returns
returns c =
    word_of-written c.args.text.now c.loop-byte.byte-index c.loop-byte.number c.new.result
    (omega arith) (omega arith) c.loop-byte.invariant c.new.ensures
