use Rattle.std.proofs.Common.{◌≡◌, ◌-◌, ◌*◌, ◌∙◌, length, min, ap, arith}
use Rattle.sparsity.specs.Coupled.{row_of}
use Rattle.sparsity.proofs.Counting.{row_most}
use Rattle.sparsity.proofs.Piecing.{count_more, small_more, piece_done}
use Rattle.std.specs.List.{concat}
use Rattle.sparsity.proofs.limit.one_count.Goals as goal

pub loop-i-preserved : goal.loop-i-preserved
loop-i-preserved c =
    let more : c.len-count.result ≡ length (row_of c.args.size c.args.lists.now c.loop-i.i) = omega (arith, c.len-count.ensures, c.gather_row.new.row.ok, ap length c.in_ok-gather_row.ensures) in
    record {
      pairs = count_more (row_of c.args.size c.args.lists.now) c.ends_of_piece-first.result.0 c.loop-i.i c.loop-i.count c.len-count.result c.loop-i.auto.i c.loop-i.invariant.pairs more;
      small = small_more c.ends_of_piece-first.result.0 c.loop-i.i c.args.size c.loop-i.count c.len-count.result c.loop-i.auto.i c.loop-i.invariant.small
          (omega (arith, more, row_most c.args.size c.args.lists.now c.loop-i.i));
    }

pub returns : goal.returns
returns c =
    let n : c.loop-i.i - c.ends_of_piece-first.result.0 ≡ min 1024 (c.args.size - c.args.p * 1024) =
    omega (arith, c.loop-i-test.false, c.loop-i.auto.i-end, c.ends_of_piece-first.ensures.first, c.ends_of_piece-first.ensures.length) in
    c.loop-i.invariant.pairs
    ∙ ap (λ rows. length (concat rows)) (piece_done c.args.size c.args.lists.now c.args.p c.ends_of_piece-first.result.0 (c.loop-i.i - c.ends_of_piece-first.result.0) c.ends_of_piece-first.ensures.first n)
