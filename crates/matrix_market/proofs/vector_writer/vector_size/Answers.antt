use Rattle.std.proofs.Common.{drop, map, arith}
use Rattle.std.specs.Fmt.{signed_decimal}
use Rattle.matrix_market.specs.Entries.{right_sides}
use Rattle.matrix_market.specs.Texts.{vector_front, vector_text}
use Rattle.matrix_market.specs.Parts.{values_text, size_of}
use Rattle.matrix_market.proofs.Pieces.{size_at_end}
use Rattle.matrix_market.proofs.Whole.{vector_whole, vector_length, size_of_whole, values_end}
use Rattle.matrix_market.proofs.vector_writer.vector_size.Goals as goal

pub loop-i-init : goal.loop-i-init
loop-i-init c =
    let values = right_sides c.args.rows.now in (
      omega (arith, c.front_size-size.ensures.few),
      size_of_whole (vector_front c.size.result) (map signed_decimal values) (vector_text values) c.front_size-size.result
          (vector_whole values c.size.result (vector_length c.args.rows.now c.size.result c.size.ensures)) c.front_size-size.ensures.value,
    )

pub returns : goal.returns
returns c =
    let values = right_sides c.args.rows.now in
    size_at_end c.loop-i.size (size_of (vector_text values)) (values_text (drop c.loop-i.i values)) c.loop-i.invariant.1
    (values_end values c.loop-i.i (omega (arith, vector_length c.args.rows.now c.size-i-end.result c.size-i-end.ensures))) c.loop-i.invariant.0
