use Rattle.std.proofs.Common.{◌≡◌, arith, length}
use Rattle.std.proofs.lemmas.Grind.{common_steps}
use Rattle.dof_numbers.specs.Table.{IsRow}
use Rattle.dof_numbers.proofs.Rows.{start_held, rows_by, each_more, numbering_all, dofs_of_corners}
use Rattle.dof_numbers.proofs.dofs.Dofs.number_all.Goals as goal

pub loop-cell-init : goal.loop-cell-init
loop-cell-init c = record {
  holds = start_held 2 c.args.forest.now _ c.new-table.result.size c.new-table.ensures.size c.new-table.ensures.empty;
  small = omega (arith, c.new-table.ensures.size);
  count = grind (arith, common_steps);
  nine = grind (arith, common_steps);
  rows = λ i h. absurd (omega arith);
}

pub loop-cell-preserved : goal.loop-cell-preserved
loop-cell-preserved c =
    let forest = c.args.forest.now in
    let cell = c.loop-cell.cell in
    record {
      holds = c.in_ok-dofs.ensures.holds;
      small = omega (arith, c.in_ok-dofs.ensures.small, c.loop-cell.invariant.small);
      count = grind (arith, common_steps);
      nine = each_more 9 c.loop-cell.rows.items _ _ c.in_ok-push.ensures.items c.in_ok-dofs.ensures.nine c.loop-cell.invariant.nine;
      rows = rows_by (IsRow forest) cell c.loop-cell.rows.items _ _ c.loop-cell.invariant.count c.in_ok-push.ensures.items c.loop-cell.invariant.rows c.in_ok-dofs.ensures.row;
    }

pub returns-clause-dofs : goal.returns-clause-dofs
returns-clause-dofs c =
    let h = c.cells-cell-end.ensures.count in
    let e : c.loop-cell.cell ≡ length c.args.forest.now.cells = omega (arith, c.loop-cell-test.false, c.loop-cell.auto.cell-end, h) in
    numbering_all c.args.forest.now c.loop-cell.cell _ _ _ c.loop-cell.table.others.items e c.loop-cell.invariant.holds c.loop-cell.invariant.count c.loop-cell.invariant.nine c.loop-cell.invariant.rows

pub returns-clause-corners : goal.returns-clause-corners
returns-clause-corners c =
    let h = c.cells-cell-end.ensures.count in
    let e : c.loop-cell.cell ≡ length c.args.forest.now.cells = omega (arith, c.loop-cell-test.false, c.loop-cell.auto.cell-end, h) in
    dofs_of_corners c.args.forest.now _
    (numbering_all c.args.forest.now c.loop-cell.cell _ _ _ c.loop-cell.table.others.items e c.loop-cell.invariant.holds c.loop-cell.invariant.count c.loop-cell.invariant.nine c.loop-cell.invariant.rows)
