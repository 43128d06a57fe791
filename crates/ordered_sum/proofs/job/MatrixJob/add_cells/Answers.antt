use Rattle.std.proofs.Common.{ℕ, List, ◌+◌, ◌<◌, length, arith, subst, sym}
use Rattle.serial_sum.specs.Rows.{FitsRows}
use Rattle.mesh_loop.specs.Setup.{MeshProblem}
use Rattle.ordered_sum.proofs.Copied.{stand_there, copy_is}
use Rattle.ordered_sum.proofs.Steps.{copy_held, one_added}
use Rattle.ordered_sum.proofs.job.MatrixJob.add_cells.Goals as goal

pub cell-requires : goal.cell-requires
cell-requires c = omega (arith, c.loop-k-test.true, stand_there c.args.self.now.setup.now c.args.cells.first c.args.cells.count c.args.copy.now c.requires.stand)

pub add_cell_to_state-requires-clause-fits : goal.add_cell_to_state-requires-clause-fits
add_cell_to_state-requires-clause-fits c =
    let P : List (List ℕ) → Type 0 = λ pattern. FitsRows pattern c.loop-k.state.rows in
    subst P (sym c.pattern.ensures) c.loop-k.invariant.fits

pub add_cell_to_state-requires-clause-holds : goal.add_cell_to_state-requires-clause-holds
add_cell_to_state-requires-clause-holds c =
    let s : MeshProblem = c.args.self.now.setup.now in
    let there : c.args.cells.first + c.loop-k.k < length s.given.forest.cells = omega (arith, c.loop-k-test.true, c.requires.there) in
    copy_held s (c.args.cells.first + c.loop-k.k) c.pattern.result.now c.closed.result.now c.cell.result.now c.pattern.ensures c.closed.ensures
    (copy_is s c.args.cells.first c.args.cells.count c.loop-k.k c.args.copy.now c.cell.result.now c.loop-k-test.true c.requires.stand c.cell.ensures)
    (c.cells_are_written.ensures (c.args.cells.first + c.loop-k.k) there)

pub loop-k-preserved : goal.loop-k-preserved
loop-k-preserved c =
    let s : MeshProblem = c.args.self.now.setup.now in
    record {
      steps = one_added c.args.self.now.digits s c.args.cells.first c.loop-k.k c.pattern.result.now c.closed.result.now c.cell.result.now c.args.state.now c.loop-k.state c.add_cell_to_state.new.state c.pattern.ensures c.closed.ensures
          (copy_is s c.args.cells.first c.args.cells.count c.loop-k.k c.args.copy.now c.cell.result.now c.loop-k-test.true c.requires.stand c.cell.ensures) c.loop-k.invariant.steps c.add_cell_to_state.ensures.step;
      fits = (let P : List (List ℕ) → Type 0 = λ pattern. FitsRows pattern c.add_cell_to_state.new.state.rows in subst P c.pattern.ensures c.add_cell_to_state.ensures.fits);
    }
