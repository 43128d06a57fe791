use Rattle.std.proofs.Common.{arith}
use Rattle.fem_text.proofs.Digits.{digit_count, zero_digits}
use Rattle.matrix_market.proofs.sizes.digits.Goals as goal

pub returns-in-Some-clause-value : goal.returns-in-Some-clause-value
returns-in-Some-clause-value c =
    digit_count c.args.number c.in-Some.power (omega arith) c.in-Some.ensures.power_le c.in-Some.ensures.next_power_gt

pub returns-in-None-clause-value : goal.returns-in-None-clause-value
returns-in-None-clause-value c = zero_digits c.args.number c.in-None.ensures.none
