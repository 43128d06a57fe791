use Rattle.std.proofs.Common.{drop, map, arith, refl, length}
use Rattle.std.specs.Fmt.{signed_decimal}
use Rattle.matrix_market.specs.Texts.{vector_front, vector_text}
use Rattle.matrix_market.specs.Parts.{values_text, size_of}
use Rattle.matrix_market.proofs.Pieces.{size_at_end}
use Rattle.matrix_market.proofs.Whole.{vector_whole, size_of_whole, values_end}
use Rattle.matrix_market.proofs.vector_writer.list_size.Goals as goal

pub loop-value-init : goal.loop-value-init
loop-value-init c =
    let values = c.args.list.now in (
      omega (arith, c.front_size-size.ensures.few),
      size_of_whole (vector_front (length values)) (map signed_decimal values) (vector_text values) c.front_size-size.result (vector_whole values (length values) refl)
          c.front_size-size.ensures.value,
    )

pub returns : goal.returns
returns c =
    let values = c.args.list.now in
    size_at_end c.loop-value.size (size_of (vector_text values)) (values_text (drop c.loop-value.value-index values)) c.loop-value.invariant.1
    (values_end values c.loop-value.value-index (omega arith)) c.loop-value.invariant.0
