use Rattle.std.proofs.Common.{◌<◌, arith}
use Rattle.std.specs.Char.{digit_value}
use Rattle.std.proofs.Math.Nat.{pow-le-pow_right}
use Rattle.std.proofs.lemmas.Bool.{lt-ltb}
use Rattle.ga_expand.proofs.Numerals.{in_room, more_digits, one_more}
use Rattle.ga_expand.proofs.literal.numeral.Goals as goal

pub overflow_mul-number : goal.overflow_mul-number
overflow_mul-number c =
    let below = one_more c.args.radix c.loop-byte.byte-index c.loop-byte.number 0
    c.loop-byte.invariant.small (omega (arith, c.requires.radix.0)) in
    let room = in_room c.args.radix c.loop-byte.byte-index c.args.most c.requires.radix.0
    (omega (arith, c.loop-byte-test.true, c.if-digits-most.false)) in
    omega (arith, below, room, c.requires.room)

pub overflow_add-number : goal.overflow_add-number
overflow_add-number c =
    let digit : c.in_ok-digit.digit < c.args.radix = omega (arith, c.in_ok-digit.ensures.value) in
    let below = one_more c.args.radix c.loop-byte.byte-index c.loop-byte.number
    c.in_ok-digit.digit c.loop-byte.invariant.small digit in
    let room = in_room c.args.radix c.loop-byte.byte-index c.args.most c.requires.radix.0
    (omega (arith, c.loop-byte-test.true, c.if-digits-most.false)) in
    omega (arith, below, room, c.requires.room)

pub loop-byte-preserved : goal.loop-byte-preserved
loop-byte-preserved c =
    more_digits c.args.radix c.args.digits.now c.loop-byte.byte-index c.loop-byte.number
    c.from.result c.in_ok-digit.digit c.loop-byte.invariant c.loop-byte-test.true
    c.from.ensures
    (lt-ltb (digit_value c.from.result) c.args.radix c.in_ok-digit.ensures.value.0)
    c.in_ok-digit.ensures.value.1

pub returns-clause-bound : goal.returns-clause-bound
returns-clause-bound c =
    let most = pow-le-pow_right {n = c.args.radix} (omega (arith, c.requires.radix.0))
    {i = c.loop-byte.byte-index} {j = c.args.most}
    (omega (arith, c.if-digits-most.false, c.loop-byte.auto.byte-index-end)) in
    omega (arith, most, c.loop-byte.invariant.small)
