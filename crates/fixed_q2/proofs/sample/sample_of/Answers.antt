use Rattle.std.proofs.Common.{FitsSigned}
use Rattle.std.specs.Int.{w64}
use Rattle.std.proofs.lemmas.Int.{to_z-of_z}
use Rattle.fixed_q2.proofs.ShapeSizes.{table_small, values_small}
use Rattle.fixed_q2.proofs.Points.{sample_same}
use Rattle.fixed_q1.specs.Geometry.{vector}
use Rattle.fixed_q2.proofs.sample.sample_of.Goals as goal

pub gradients_on_cell-requires-clause-table : goal.gradients_on_cell-requires-clause-table
gradients_on_cell-requires-clause-table c = table_small c.args.table.now (vector c.args.x c.args.y) c.requires.table c.requires.x c.requires.y

pub returns-clause-value : goal.returns-clause-value
returns-clause-value c =
    let fw : FitsSigned w64 c.args.weight = c.ranges.weight in
    let fx : FitsSigned w64 c.args.x = c.ranges.x in
    let fy : FitsSigned w64 c.args.y = c.ranges.y in
    let fd : FitsSigned w64 c.jacobian_determinant.result = record { sfits = c.jacobian_determinant.type_inv } in
    let rj = c.bilinear_jacobian-jacobian.ensures.value in
    simp to_z-of_z
    (sample_same c.args.points.now c.args.x c.args.y c.args.weight c.args.table.now c.bilinear_jacobian-jacobian.result c.jacobian_determinant.result
    c.values_in.result c.gradients_on_cell.result c.requires.table (simp to_z-of_z at rj) c.jacobian_determinant.ensures.value c.values_in.ensures
    c.gradients_on_cell.ensures.value)

pub returns-clause-bounded : goal.returns-clause-bounded
returns-clause-bounded c =
    let fw : FitsSigned w64 c.args.weight = c.ranges.weight in
    let fd : FitsSigned w64 c.jacobian_determinant.result = record { sfits = c.jacobian_determinant.type_inv } in
    simp to_z-of_z (record {
      weight = c.requires.weight;
      slopes = c.bilinear_jacobian-jacobian.ensures.slopes;
      determinant = c.jacobian_determinant.ensures.size;
      values = values_small c.args.table.now c.values_in.result c.values_in.ensures c.told-table
          (table_small c.args.table.now (vector c.args.x c.args.y) c.requires.table c.requires.x c.requires.y);
      gradients = c.gradients_on_cell.ensures.small;
      on_cell = c.gradients_on_cell.ensures.on_cell;
    })
