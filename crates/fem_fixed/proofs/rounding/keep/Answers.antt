use Rattle.std.proofs.Common.{◌≡◌, ◌∙◌, ap, pos, ◌^◌, ◌-◌, arith, unsigned_abs, FitsSigned}
use Rattle.std.specs.Int.{w128}
use Rattle.std.specs.Int.Count.{count_leading_zeros}
use Rattle.std.proofs.lemmas.Int.{to_z-of_z}
use Rattle.fem_fixed.specs.KeptSum.{nearest_multiple}
use Rattle.fem_fixed.proofs.Kept.{is_length, kept_short, kept_long}
use Rattle.fem_fixed.proofs.rounding.keep.Goals as goal

pub returns-then-length-digits : goal.returns-then-length-digits
returns-then-length-digits c =
    let size : c.unsigned_abs.result ≡ unsigned_abs c.args.sum = c.unsigned_abs.ensures.value ∙ ap unsigned_abs (to_z-of_z w128 c.args.sum c.ranges.sum) in
    let len = is_length (unsigned_abs c.args.sum) _ c.requires.sum (ap (count_leading_zeros 128) size) in
    to_z-of_z w128 c.args.sum c.ranges.sum ∙ kept_short c.args.digits _ c.args.sum len c.if-length-digits.true

pub multiple-requires-clause-power : goal.multiple-requires-clause-power
multiple-requires-clause-power c =
    let size : c.unsigned_abs.result ≡ unsigned_abs c.args.sum = c.unsigned_abs.ensures.value ∙ ap unsigned_abs (to_z-of_z w128 c.args.sum c.ranges.sum) in
    let len = is_length (unsigned_abs c.args.sum) (count_leading_zeros 128 c.unsigned_abs.result) c.requires.sum (ap (count_leading_zeros 128) size) in
    let short = len.short in
    omega (arith, short)

pub returns : goal.returns
returns c =
    let size : c.unsigned_abs.result ≡ unsigned_abs c.args.sum = c.unsigned_abs.ensures.value ∙ ap unsigned_abs (to_z-of_z w128 c.args.sum c.ranges.sum) in
    let len = is_length (unsigned_abs c.args.sum) (count_leading_zeros 128 c.unsigned_abs.result) c.requires.sum (ap (count_leading_zeros 128) size) in
    let fits : FitsSigned w128 c.multiple.result = record { sfits = c.multiple.type_inv } in
    to_z-of_z w128 c.multiple.result fits ∙ c.multiple.ensures
    ∙ ap (λ x. nearest_multiple (pos (2 ^ (128 - count_leading_zeros 128 c.unsigned_abs.result - c.args.digits))) x) (to_z-of_z w128 c.args.sum c.ranges.sum)
    ∙ kept_long c.args.digits _ c.args.sum len (omega arith) (omega arith)
