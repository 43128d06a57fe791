use Rattle.std.proofs.Common.{arith}
use Rattle.fem_text.proofs.Digits.{room_for_digit}
use Rattle.matrix_market.proofs.values.read_digits.Goals as goal

pub overflow_mul-value : goal.overflow_mul-value
overflow_mul-value c =
    let room = room_for_digit c.loop-byte.value c.loop-byte.byte-index c.loop-byte.invariant.2 (omega arith) in
    omega arith

pub overflow_add-value : goal.overflow_add-value
overflow_add-value c =
    let room = room_for_digit c.loop-byte.value c.loop-byte.byte-index c.loop-byte.invariant.2 (omega arith) in
    omega (arith, c.if-not-is_ascii_digit.ensures.bound)
