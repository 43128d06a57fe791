use Rattle.std.proofs.Common.{◌≡◌, ◌-◌, ◌<◌, ℕ, List, arith, length, map, sym, subst, slice_index, Some, Ok}
use Rattle.conflict_coloring.specs.Coloring.{color_count}
use Rattle.sparsity.specs.declared.rows.Row.{Row}
use Rattle.sparsity.specs.Rows.{zero_row}
use Rattle.serial_sum.specs.Marks.{IsRound, Tells}
use Rattle.serial_sum.specs.Rows.{FitsRows}
use Rattle.serial_sum.specs.SerialSum.{SumIs}
use Rattle.serial_sum.specs.Steps.{FaultIs}
use Rattle.serial_sum.specs.declared.sum.AssembleFault.{AssembleFault}
use Rattle.serial_sum.proofs.StateLaws.{zero_fits}
use Rattle.mesh_loop.specs.Setup.{MeshProblem, pattern_of}
use Rattle.mesh_loop.specs.Sum.{parts_of}
use Rattle.colored_sum.specs.Rounds.{items_of}
use Rattle.colored_sum.proofs.ColorItems.{cells_below, items_are}
use Rattle.colored_sum.proofs.ColorSums.{none_before, zero_clean}
use Rattle.colored_sum.proofs.ColorRounds.{same_items, same_round, same_fits, is_color, next_state, failed, summed_all}
use Rattle.colored_sum.proofs.colored.assemble_colored.Goals as goal

pub loop-color-init : goal.loop-color-init
loop-color-init g c =
    let s : MeshProblem = c.args.setup.now in
    let zeros : c.in_ok-rows.rows ≡ map zero_row c.pattern.result.now = c.in_ok-rows.ensures in
    let P : List (List ℕ) → Type 0 = λ p. FitsRows p c.in_ok-rows.rows in
    let Q : List Row → Type 0 = FitsRows c.pattern.result.now in
    record {
      steps = none_before c.args.plan.now.digits s c.args.colors.now.order (slice_index c.args.colors.now.starts 0) c.in_ok-rows.rows c.pattern.result.now c.pattern.ensures zeros c.requires.colors.starts.first;
      clean = zero_clean c.in_ok-rows.rows c.pattern.result.now zeros;
      fits = subst P c.pattern.ensures (subst Q (sym zeros) (zero_fits c.pattern.result.now));
    }

pub new-job-requires-clause-cells : goal.new-job-requires-clause-cells
new-job-requires-clause-cells g c = cells_below c.args.setup.now c.args.colors.now c.loop-color.color c.cells_of_color.result.now c.requires.colors c.cells_of_color.ensures.cells

pub add_color-requires-clause-items : goal.add_color-requires-clause-items
add_color-requires-clause-items g c κs within =
    same_items c.args.setup.now c.new-job.result.setup.now c.cells_of_color.result.now c.new-job.result.cells.now c.new-job.ensures.setup c.new-job.ensures.cells
    (items_are c.args.setup.now c.args.colors.now c.loop-color.color c.cells_of_color.result.now c.requires.colors c.cells_of_color.ensures.cells c.cells_are_written.ensures)

pub returns-then-has_mark-clause-fails : goal.returns-then-has_mark-clause-fails
returns-then-has_mark-clause-fails g c =
    let s : MeshProblem = c.args.setup.now in
    let inside : c.loop-color.color < color_count c.args.colors.now = is_color s c.args.colors.now c.starts-starts.result.now c.loop-color.color c.starts-starts.ensures (omega (arith, c.loop-color-test.true)) in
    let round : IsRound c.args.plan.now.digits (pattern_of s) (items_of s c.cells_of_color.result.now) c.loop-color.rows c.in_ok-rows-2.rows =
    same_round s c.new-job.result.setup.now c.cells_of_color.result.now c.new-job.result.cells.now c.args.plan.now.digits c.new-job.result.digits c.loop-color.rows c.in_ok-rows-2.rows c.new-job.ensures.setup c.new-job.ensures.cells
    c.new-job.ensures.digits c.in_ok-rows-2.ensures.round in
    let T : List Row → Type 0 = λ rows. Tells rows (Some c.failure_of.result) in
    let P : AssembleFault → Type 0 = FaultIs c.args.plan.now.digits (pattern_of s) (parts_of s c.args.colors.now.order) in
    subst P (sym c.from.ensures)
    (failed c.args.plan.now.digits s c.args.colors.now c.loop-color.color c.cells_of_color.result.now c.loop-color.rows c.in_ok-rows-2.rows c.requires.colors inside c.cells_are_written.ensures c.cells_of_color.ensures.cells
    c.cells_of_color.ensures.part c.loop-color.invariant.clean c.loop-color.invariant.fits c.loop-color.invariant.steps round c.failure_of.result (subst T c.in_ok-failed.ensures c.failure_of.ensures))

pub loop-color-preserved : goal.loop-color-preserved
loop-color-preserved g c =
    let s : MeshProblem = c.args.setup.now in
    let inside : c.loop-color.color < color_count c.args.colors.now = is_color s c.args.colors.now c.starts-starts.result.now c.loop-color.color c.starts-starts.ensures (omega (arith, c.loop-color-test.true)) in
    let round : IsRound c.args.plan.now.digits (pattern_of s) (items_of s c.cells_of_color.result.now) c.loop-color.rows c.in_ok-rows-2.rows =
    same_round s c.new-job.result.setup.now c.cells_of_color.result.now c.new-job.result.cells.now c.args.plan.now.digits c.new-job.result.digits c.loop-color.rows c.in_ok-rows-2.rows c.new-job.ensures.setup c.new-job.ensures.cells
    c.new-job.ensures.digits c.in_ok-rows-2.ensures.round in
    record {
      steps = next_state c.args.plan.now.digits s c.args.colors.now c.loop-color.color c.cells_of_color.result.now c.loop-color.rows c.in_ok-rows-2.rows c.requires.colors inside c.cells_are_written.ensures
          c.cells_of_color.ensures.cells c.cells_of_color.ensures.part c.loop-color.invariant.clean c.loop-color.invariant.fits c.loop-color.invariant.steps round (c.has_mark.ensures.none c.if-has_mark.false);
      clean = c.has_mark.ensures.none c.if-has_mark.false;
      fits = same_fits s c.new-job.result.setup.now c.in_ok-rows-2.rows c.new-job.ensures.setup c.in_ok-rows-2.ensures.fits;
    }

pub returns-clause-ok : goal.returns-clause-ok
returns-clause-ok g c =
    let s : MeshProblem = c.args.setup.now in
    let end : c.loop-color.color ≡ length c.starts-starts.result.now - 1 = omega (arith, c.loop-color-test.false, c.loop-color.auto.color-end) in
    let S : List Row → Type 0 = λ rows. SumIs c.args.plan.now.digits (pattern_of s) (parts_of s c.args.colors.now.order) (Ok rows) in
    subst S (sym c.in_ok-sums.ensures)
    (summed_all c.args.plan.now.digits s c.args.colors.now c.starts-starts.result.now c.loop-color.color c.loop-color.rows c.requires.colors c.cells_are_written.ensures c.starts-starts.ensures end c.loop-color.invariant.steps)
