use Rattle.std.proofs.Common.{◌≡◌, ◌<◌, ap, arith, length, slice_index}
use Rattle.std.proofs.lemmas.Grind.{common_steps}
use Rattle.dof_numbers.specs.Table.{seen_below}
use Rattle.dof_numbers.proofs.Rows.{IsVertexRow, start_held, rows_by, each_more, vertices_held, vertex_row, numbering_vertices, dofs_of_corners}
use Rattle.dof_numbers.proofs.dofs.Dofs.number_vertices.Goals as goal

pub loop-cell-init : goal.loop-cell-init
loop-cell-init c = record {
  holds = start_held 1 c.args.forest.now _ c.new-table.result.size c.new-table.ensures.size c.new-table.ensures.empty;
  small = omega (arith, c.new-table.ensures.size);
  count = grind (arith, common_steps);
  four = grind (arith, common_steps);
  corners = λ i h. absurd (omega arith);
}

pub loop-cell-preserved : goal.loop-cell-preserved
loop-cell-preserved c =
    let h = c.cells-cell-end.ensures.count in
    let forest = c.args.forest.now in
    let cell = c.loop-cell.cell in
    let inside : cell < length forest.cells = omega (arith, c.loop-cell-test.true, h) in
    let seen = seen_below 1 forest cell in
    record {
      holds = vertices_held forest cell _ _ inside (c.in_ok-dofs.ensures.next forest cell seen c.corners.ensures.names inside (λ v b. ap (λ row. slice_index row v) c.corners.ensures.value) c.loop-cell.invariant.holds);
      small = omega (arith, c.in_ok-dofs.ensures.small, c.loop-cell.invariant.small);
      count = grind (arith, common_steps);
      four = each_more 4 c.loop-cell.rows.items _ _ c.in_ok-push.ensures.items c.in_ok-dofs.ensures.four c.loop-cell.invariant.four;
      corners = rows_by (IsVertexRow forest) cell c.loop-cell.rows.items _ _ c.loop-cell.invariant.count c.in_ok-push.ensures.items c.loop-cell.invariant.corners
          (vertex_row forest cell _ inside (c.in_ok-dofs.ensures.dofs forest cell seen c.corners.ensures.names inside (λ v b. ap (λ row. slice_index row v) c.corners.ensures.value) c.loop-cell.invariant.holds));
    }

pub returns-clause-dofs : goal.returns-clause-dofs
returns-clause-dofs c =
    let h = c.cells-cell-end.ensures.count in
    let e : c.loop-cell.cell ≡ length c.args.forest.now.cells = omega (arith, c.loop-cell-test.false, c.loop-cell.auto.cell-end, h) in
    numbering_vertices c.args.forest.now c.loop-cell.cell _ _ _ c.loop-cell.table.others.items e c.loop-cell.invariant.holds c.loop-cell.invariant.count c.loop-cell.invariant.four c.loop-cell.invariant.corners

pub returns-clause-corners : goal.returns-clause-corners
returns-clause-corners c =
    let h = c.cells-cell-end.ensures.count in
    let e : c.loop-cell.cell ≡ length c.args.forest.now.cells = omega (arith, c.loop-cell-test.false, c.loop-cell.auto.cell-end, h) in
    dofs_of_corners c.args.forest.now _
    (numbering_vertices c.args.forest.now c.loop-cell.cell _ _ _ c.loop-cell.table.others.items e c.loop-cell.invariant.holds c.loop-cell.invariant.count c.loop-cell.invariant.four c.loop-cell.invariant.corners)
