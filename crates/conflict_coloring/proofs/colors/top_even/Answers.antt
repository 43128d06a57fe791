use Rattle.std.proofs.Common.{arith}
use Rattle.conflict_coloring.proofs.Whole.{top_more, top_all, top_none}
use Rattle.conflict_coloring.proofs.colors.top_even.Goals as goal

pub loop-cell-init : goal.loop-cell-init
loop-cell-init c = top_none c.args.zones.now c.args.inside.now

pub loop-cell-preserved : goal.loop-cell-preserved
loop-cell-preserved c = top_more c.args.zones.now c.args.inside.now c.loop-cell.cell c.loop-cell.top c.raised-top.result c.loop-cell.invariant c.raised-top.ensures

pub returns : goal.returns
returns c = top_all c.args.zones.now c.args.inside.now c.loop-cell.cell c.loop-cell.top c.loop-cell.invariant (omega arith)
