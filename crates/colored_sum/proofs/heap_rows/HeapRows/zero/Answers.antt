use Rattle.std.proofs.Common.{◌<◌, length, arith}
use Rattle.sparsity.proofs.Numbered.{zeros_none, zeros_more}
use Rattle.colored_sum.proofs.heap_rows.HeapRows.zero.Goals as goal

pub loop-i-init : goal.loop-i-init
loop-i-init c = zeros_none c.in_ok-rows.rows.items c.args.pattern.now c.in_ok-rows.ensures.items

pub loop-i-preserved : goal.loop-i-preserved
loop-i-preserved c =
    let inside : c.loop-i.i < length c.args.pattern.now = omega (arith, c.loop-i-test.true, c.loop-i.auto.i-end, c.size-size.ensures.size) in
    zeros_more c.loop-i.rows.items c.push.new.self.items c.args.pattern.now c.row.result.now c.loop-i.i c.in_ok-zeros.field-0 inside c.row.ensures.value c.in_ok-zeros.ensures c.in_ok-push.ensures.items c.loop-i.invariant
