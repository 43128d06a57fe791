use Rattle.std.proofs.Common.{drop, arith}
use Rattle.matrix_market.specs.Texts.{pair_lines, pattern_front, pattern_text}
use Rattle.matrix_market.specs.Parts.{pairs_text, size_of}
use Rattle.matrix_market.proofs.Pieces.{size_at_end}
use Rattle.matrix_market.proofs.Whole.{pattern_whole, size_of_whole, pairs_end}
use Rattle.matrix_market.proofs.pattern_writer.pattern_size.Goals as goal

pub loop-i-init : goal.loop-i-init
loop-i-init c =
    let pattern = c.args.pattern.now in (
      omega (arith, c.front_size-size.ensures.few),
      size_of_whole (pattern_front c.size.result c.entries.result) (pair_lines 0 pattern) (pattern_text pattern) c.front_size-size.result
          (pattern_whole pattern c.size.result c.entries.result c.size.ensures.size c.entries.ensures) c.front_size-size.ensures.value,
    )

pub returns : goal.returns
returns c =
    let pattern = c.args.pattern.now in
    size_at_end c.loop-i.size (size_of (pattern_text pattern)) (pairs_text c.loop-i.i (drop c.loop-i.i pattern)) c.loop-i.invariant.1
    (pairs_end pattern c.loop-i.i (omega (arith, c.size-i-end.ensures.size))) c.loop-i.invariant.0
