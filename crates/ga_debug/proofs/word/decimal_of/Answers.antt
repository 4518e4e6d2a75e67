use Rattle.std.proofs.Common.{◌<◌, ◌^◌, arith}
use Rattle.ga_debug.proofs.Digits.{room_for_ninth}
use Rattle.ga_debug.proofs.word.decimal_of.Goals as goal

pub overflow_mul-number : goal.overflow_mul-number
overflow_mul-number c =
    let small : c.loop-digit.number < 10 ^ 8 =
    room_for_ninth _ c.loop-digit.digit-index (omega arith) c.loop-digit.invariant.small in
    omega arith

pub overflow_add-number : goal.overflow_add-number
overflow_add-number c =
    let small : c.loop-digit.number < 10 ^ 8 =
    room_for_ninth _ c.loop-digit.digit-index (omega arith) c.loop-digit.invariant.small in
    omega arith
