use Rattle.std.proofs.Common.{◌≡◌, ◌+◌, ◌≤◌, List, ap, sym, subst, length, arith, Some, None}
use Rattle.std.proofs.lemmas.List.Elements.{All-nil}
use Rattle.cell_blocks.specs.Visited.{blocks_in}
use Rattle.serial_sum.specs.Rows.{FitsRows}
use Rattle.serial_sum.specs.Steps.{FaultIs, IsPartFor}
use Rattle.serial_sum.specs.declared.sum.AssembleFault.{AssembleFault}
use Rattle.serial_sum.proofs.StateLaws.{zero_fits}
use Rattle.sparsity.specs.declared.rows.Row.{Row}
use Rattle.mesh_loop.specs.Setup.{MeshProblem, cells_of, pattern_of}
use Rattle.mesh_loop.specs.Sum.{parts_of}
use Rattle.mesh_loop.proofs.Held.{held_by}
use Rattle.mesh_loop.proofs.Summing.{state_at, none_summed, cell_summed, cell_allowed, whole_sum, failed_sum}
use Rattle.mesh_loop.proofs.serial.assemble_serial.Goals as goal

pub loop-cell-init : goal.loop-cell-init
loop-cell-init c = record {
  steps = none_summed c.args.digits c.args.setup.now c.in_ok-rows.rows c.pattern.result.now c.pattern.ensures (ap (λ (rows : List Row). state_at rows None) c.in_ok-rows.ensures.zeros);
  fits = subst (FitsRows c.pattern.result.now) (sym c.in_ok-rows.ensures.zeros) (zero_fits c.pattern.result.now);
  allowed = All-nil (IsPartFor (pattern_of c.args.setup.now));
}

pub add_cell-requires-clause-holds : goal.add_cell-requires-clause-holds
add_cell-requires-clause-holds c =
    held_by c.args.setup.now c.pattern.result.now c.closed.result.now (blocks_in c.blocks_of.new.copy) c.pattern.ensures c.closed.ensures c.blocks_of.ensures.held

pub loop-cell-preserved : goal.loop-cell-preserved
loop-cell-preserved c = record {
  steps = cell_summed c.args.setup.now c.args.digits c.loop-cell.cell c.pattern.result.now c.closed.result.now c.blocks_of.new.copy c.loop-cell.rows c.add_cell.new.rows None c.pattern.ensures c.closed.ensures
      c.blocks_of.ensures.value c.loop-cell.invariant.steps c.in_default.ensures.step;
  fits = c.in_default.ensures.fits;
  allowed = cell_allowed c.args.setup.now c.loop-cell.cell c.pattern.result.now c.closed.result.now c.blocks_of.new.copy c.pattern.ensures c.closed.ensures c.blocks_of.ensures.value c.loop-cell.invariant.allowed c.in_default.ensures.allowed;
}

pub returns-in-Some-clause-fails : goal.returns-in-Some-clause-fails
returns-in-Some-clause-fails c =
    let s : MeshProblem = c.args.setup.now in
    let within : c.loop-cell.cell + 1 ≤ length s.given.forest.cells = omega (arith, c.loop-cell-test.true, c.cells-cell-end.ensures) in
    let P : AssembleFault → Type 0 = FaultIs c.args.digits (pattern_of s) (parts_of s (cells_of s)) in
    subst P (sym c.from.ensures)
    (failed_sum c.args.digits s (c.loop-cell.cell + 1) c.add_cell.new.rows c.in-Some.failure within
    (cell_allowed s c.loop-cell.cell c.pattern.result.now c.closed.result.now c.blocks_of.new.copy c.pattern.ensures c.closed.ensures c.blocks_of.ensures.value c.loop-cell.invariant.allowed c.in-Some.ensures.allowed)
    (cell_summed s c.args.digits c.loop-cell.cell c.pattern.result.now c.closed.result.now c.blocks_of.new.copy c.loop-cell.rows c.add_cell.new.rows (Some c.in-Some.failure) c.pattern.ensures c.closed.ensures
    c.blocks_of.ensures.value c.loop-cell.invariant.steps c.in-Some.ensures.step))

pub returns-clause-ok : goal.returns-clause-ok
returns-clause-ok c =
    let s : MeshProblem = c.args.setup.now in
    let end : c.loop-cell.cell ≡ length s.given.forest.cells = omega (arith, c.loop-cell-test.false, c.loop-cell.auto.cell-end, c.cells-cell-end.ensures) in
    whole_sum c.args.digits s c.loop-cell.cell c.loop-cell.rows end c.loop-cell.invariant.allowed c.loop-cell.invariant.steps
