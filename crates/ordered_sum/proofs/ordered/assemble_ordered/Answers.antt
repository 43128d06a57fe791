use Rattle.std.proofs.Common.{◌≡◌, sym, ap, subst, List, None}
use Rattle.serial_sum.specs.Steps.{FaultIs}
use Rattle.serial_sum.specs.declared.sum.AssembleFault.{AssembleFault}
use Rattle.sparsity.specs.declared.rows.Row.{Row}
use Rattle.mesh_loop.specs.Setup.{MeshProblem, cells_of, pattern_of}
use Rattle.mesh_loop.specs.Sum.{parts_of}
use Rattle.mesh_loop.proofs.Summing.{state_at}
use Rattle.ordered_sum.proofs.Ends.{zeros_fit, rows_tell, failure_tells}
use Rattle.ordered_sum.proofs.Runs.{run_ended}
use Rattle.ordered_sum.proofs.ordered.assemble_ordered.Goals as goal

pub run_job-requires-clause-state : goal.run_job-requires-clause-state
run_job-requires-clause-state g c κs within = zeros_fit c.args.setup.now c.new-job.result.setup.now c.pattern.result.now c.in_ok-rows.rows c.new-job.ensures.setup c.pattern.ensures c.in_ok-rows.ensures.zeros

pub returns-in-None-clause-ok : goal.returns-in-None-clause-ok
returns-in-None-clause-ok g c =
    let end = c.in-Ok.field-0.state in
    rows_tell c.args.plan.now.digits c.args.setup.now c.pattern.result.now (state_at c.in_ok-rows.rows None) end.rows end.failure c.cells_are_written.ensures c.pattern.ensures
    (ap (λ (rows : List Row). state_at rows None) c.in_ok-rows.ensures.zeros)
    (run_ended c.args.plan.now.digits c.args.setup.now c.new-job.result (state_at c.in_ok-rows.rows None) end c.new-job.ensures.digits c.new-job.ensures.setup c.in-Ok.ensures.state) c.in-None.is

pub returns-in-Some-clause-fails : goal.returns-in-Some-clause-fails
returns-in-Some-clause-fails g c =
    let s : MeshProblem = c.args.setup.now in
    let end = c.in-Ok.field-0.state in
    let P : AssembleFault → Type 0 = FaultIs c.args.plan.now.digits (pattern_of s) (parts_of s (cells_of s)) in
    subst P (sym c.from-in-Some.ensures)
    (failure_tells c.args.plan.now.digits s c.pattern.result.now (state_at c.in_ok-rows.rows None) end.rows end.failure c.in-Some.failure c.cells_are_written.ensures c.pattern.ensures
    (ap (λ (rows : List Row). state_at rows None) c.in_ok-rows.ensures.zeros)
    (run_ended c.args.plan.now.digits s c.new-job.result (state_at c.in_ok-rows.rows None) end c.new-job.ensures.digits c.new-job.ensures.setup c.in-Ok.ensures.state) c.in-Some.is)
