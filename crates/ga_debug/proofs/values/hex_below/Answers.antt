use Rattle.std.proofs.Common.{◌<◌, ◌^◌, arith}
use Rattle.ga_debug.proofs.HexDigits.{room_for_fifth}
use Rattle.ga_debug.proofs.values.hex_below.Goals as goal

pub overflow_mul-number : goal.overflow_mul-number
overflow_mul-number c =
    let small : c.loop-digit.number < 16 ^ 4 =
    room_for_fifth _ c.loop-digit.digit-index (omega arith) c.loop-digit.invariant.small in
    omega arith

pub overflow_add-number : goal.overflow_add-number
overflow_add-number c =
    let small : c.loop-digit.number < 16 ^ 4 =
    room_for_fifth _ c.loop-digit.digit-index (omega arith) c.loop-digit.invariant.small in
    omega arith
