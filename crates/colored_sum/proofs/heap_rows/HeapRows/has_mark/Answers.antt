use Rattle.std.proofs.Common.{◌∙◌, ◌≡◌, ◌+◌, ◌<◌, ◌≤◌, sym, arith, length}
use Rattle.serial_sum.specs.Rows.{row_at}
use Rattle.colored_sum.proofs.HeldMarks.{held_there, held_count, all_clear, one_clear, is_marked}
use Rattle.colored_sum.proofs.heap_rows.HeapRows.has_mark.Goals as goal

pub returns-in-Some-clause-some : goal.returns-in-Some-clause-some
returns-in-Some-clause-some c =
    let inside : c.loop-i.i < length c.self.inside.rows.items = omega (arith, c.loop-i-test.true, c.len-i-end.ensures, c.self.inside.rows.ok.0) in
    let at : row_at c.args.self.now c.loop-i.i ≡ c.get-row.result.now = held_there c.self.inside.rows.items c.args.self.now c.loop-i.i c.index.result.now c.self.view_is inside c.index.ensures ∙ sym c.get-row.ensures in
    λ e. is_marked c.args.self.now c.loop-i.i c.get-row.result.now c.in-Some.field-0 at c.in-Some.is

pub loop-i-preserved : goal.loop-i-preserved
loop-i-preserved c =
    let inside : c.loop-i.i < length c.self.inside.rows.items = omega (arith, c.loop-i-test.true, c.len-i-end.ensures, c.self.inside.rows.ok.0) in
    let at : row_at c.args.self.now c.loop-i.i ≡ c.get-row.result.now = held_there c.self.inside.rows.items c.args.self.now c.loop-i.i c.index.result.now c.self.view_is inside c.index.ensures ∙ sym c.get-row.ensures in
    one_clear c.args.self.now c.loop-i.i (c.loop-i.i + 1) c.get-row.result.now (omega arith) c.loop-i.invariant at c.in_default.is

pub returns-clause-none : goal.returns-clause-none
returns-clause-none c =
    let all : length c.args.self.now ≤ c.loop-i.i = omega (arith, held_count c.self.inside.rows.items c.args.self.now c.self.view_is, c.loop-i-test.false, c.len-i-end.ensures, c.self.inside.rows.ok.0) in
    λ e. all_clear c.args.self.now c.loop-i.i all c.loop-i.invariant
