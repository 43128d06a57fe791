use Rattle.std.proofs.Common.{drop, map, arith}
use Rattle.matrix_market.specs.Entries.{values_of, entries_of}
use Rattle.matrix_market.specs.Texts.{entry_line, matrix_front, matrix_text}
use Rattle.matrix_market.specs.Parts.{rows_text, size_of}
use Rattle.matrix_market.proofs.Pieces.{size_at_end}
use Rattle.matrix_market.proofs.Whole.{matrix_whole, size_of_whole, rows_end}
use Rattle.matrix_market.proofs.matrix_writer.matrix_size.Goals as goal

pub loop-i-init : goal.loop-i-init
loop-i-init c =
    let pattern = c.args.pattern.now in
    let values = values_of c.args.rows.now in (
      omega (arith, c.front_size-size.ensures.few),
      size_of_whole (matrix_front c.size.result c.entries.result) (map entry_line (entries_of pattern values)) (matrix_text pattern values) c.front_size-size.result
          (matrix_whole pattern values c.size.result c.entries.result c.size.ensures.size c.entries.ensures) c.front_size-size.ensures.value,
    )

pub returns : goal.returns
returns c =
    let pattern = c.args.pattern.now in
    let values = values_of c.args.rows.now in
    size_at_end c.loop-i.size (size_of (matrix_text pattern values)) (rows_text c.loop-i.i (drop c.loop-i.i pattern) (drop c.loop-i.i values)) c.loop-i.invariant.1
    (rows_end pattern (drop c.loop-i.i values) c.loop-i.i (omega (arith, c.size-i-end.ensures.size))) c.loop-i.invariant.0
