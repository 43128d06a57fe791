use Rattle.std.proofs.Common.{refl, slice_index, ap, ◌∙◌}
use Rattle.sparsity.specs.declared.rows.Row.{Row}
use Rattle.colored_sum.specs.Rounds.{row_with}
use Rattle.colored_sum.proofs.RowSteps.{copy_held, row_stepped}
use Rattle.colored_sum.proofs.row_job.MatrixRowJobRowJob.copy_row.Goals as goal

pub write_row-requires-clause-holds : goal.write_row-requires-clause-holds
write_row-requires-clause-holds c =
    copy_held c.args.self.now.setup.now c.args.self.now.cells.now c.args.item c.pattern.result.now c.closed.result.now c.args.copy.now
    (c.cells_are_written.ensures (slice_index c.args.self.now.cells.now c.args.item) (c.args.self.now.there c.args.item 0 c.requires.0)) c.pattern.ensures c.closed.ensures c.requires.2

pub returns : goal.returns
returns c =
    row_stepped c.args.self.now.setup.now c.args.self.now.cells.now c.args.self.now.digits c.args.item c.args.row (slice_index c.args.self.now.cells.now c.args.item) c.get_mut.result.now c.write_row.new.row c.pattern.result.now c.closed.result.now
    c.args.copy.now c.requires.0 refl c.pattern.ensures c.closed.ensures c.requires.2 c.write_row.ensures.row
    ∙ ap (λ (r : Row). row_with c.args.self.now.setup.now c.args.self.now.cells.now c.args.self.now.digits r c.args.item c.args.row) c.get_mut.ensures.value
