use Rattle.std.proofs.Common.{◌<◌, ap, length, arith}
use Rattle.matrix_market.specs.Entries.{right_sides, values_of}
use Rattle.run_summary.proofs.Passes.{small_is_read, small_rhs, row_is_there, next_row, next_rhs, next_few, diagonal_end, matrix_end, vector_end, rhs_count}
use Rattle.run_summary.specs.declared.weighted.WeightedSum.{WeightedSum}
use Rattle.run_summary.proofs.sums.system_sums.Goals as goal

pub add-requires-clause-small : goal.add-requires-clause-small
add-requires-clause-small c =
    let row = c.get-row.result.now in
    small_is_read row.rhs (small_rhs c.args.rows.now c.loop-i.i row (row_is_there c.args.pattern.now c.args.rows.now c.loop-i.i c.requires.fills (omega (arith, c.size-i-end.ensures.size))) c.get-row.ensures c.requires.small_rhs)

pub loop-i-preserved : goal.loop-i-preserved
loop-i-preserved c =
    let pattern = c.args.pattern.now in
    let rows = c.args.rows.now in
    let row = c.get-row.result.now in
    let within : c.loop-i.i < length pattern = omega (arith, c.size-i-end.ensures.size) in
    let there = row_is_there pattern rows c.loop-i.i c.requires.fills within in
    let count = ap (λ (sum : WeightedSum). sum.count) c.add.ensures.value in
    let few_rows = c.loop-i.invariant.few_rows in
    record {
      matrix = next_row pattern rows c.loop-i.i c.row.result.now c.as_slice.result.now row c.loop-i.matrix c.add_row.new.self _ within there c.row.ensures.value c.get-row.ensures c.as_slice.ensures
          c.add_row.ensures.sums c.loop-i.invariant.matrix;
      rhs = next_rhs rows c.loop-i.i row c.loop-i.rhs c.add.new.self _ there c.get-row.ensures (small_rhs rows c.loop-i.i row there c.get-row.ensures c.requires.small_rhs) c.add.ensures.value
          c.loop-i.invariant.rhs;
      few = next_few pattern c.loop-i.i c.row.result.now c.loop-i.matrix.weighted.count c.add_row.new.self.weighted.count 33554432 within c.row.ensures.value c.add_row.ensures.few c.loop-i.invariant.few;
      few_rows = omega (arith, count, few_rows);
      matrix_within = c.add_row.ensures.within;
      rhs_within = c.add.ensures.within;
    }

pub returns-clause-diagonal : goal.returns-clause-diagonal
returns-clause-diagonal c =
    let few = c.loop-i.invariant.few in
    diagonal_end c.args.pattern.now (values_of c.args.rows.now) _ c.loop-i.i c.loop-i.matrix (omega (arith, c.size-i-end.ensures.size)) c.loop-i.invariant.matrix_within (omega arith) c.loop-i.invariant.matrix

pub returns-clause-weighted : goal.returns-clause-weighted
returns-clause-weighted c =
    let few = c.loop-i.invariant.few in
    matrix_end c.args.pattern.now (values_of c.args.rows.now) _ c.loop-i.i c.loop-i.matrix (omega (arith, c.size-i-end.ensures.size)) c.loop-i.invariant.matrix_within (omega arith) c.loop-i.invariant.matrix

pub returns-clause-rhs : goal.returns-clause-rhs
returns-clause-rhs c =
    vector_end (right_sides c.args.rows.now) c.loop-i.i c.loop-i.rhs (omega (arith, c.size-i-end.ensures.size, rhs_count c.args.pattern.now c.args.rows.now c.requires.fills)) c.loop-i.invariant.rhs_within
    (omega (arith, c.loop-i.invariant.few_rows)) c.loop-i.invariant.rhs
