use Rattle.std.proofs.Common.{◌≡◌, ◌+◌, max, vec_len, []}
use Rattle.ordered_pipeline.specs.declared.view.Phase.TheVariants.{Idle}
use Rattle.scratch_pool.specs.Counts.{total}
use Rattle.ordered_pipeline.specs.Lines.{line_table, line_key}
use Rattle.ordered_pipeline.specs.Ending.{AreIdle, greatest}
use Rattle.ordered_pipeline.proofs.Closing.{overs_of}
use Rattle.ordered_pipeline.proofs.pipeline.Pipeline.close.Given as goal

abbrev pub invariant-loop-pass : goal.invariant-loop-pass
invariant-loop-pass g l = (l.seat.table_id ≡ line_table l.line) × (l.seat.me.0.phase ≡ Idle) × (l.seat.me.1 ≡ []) × (l.seat.me.0.parts + vec_len l.passes ≡ (line_key l.line).seats)
    × (max l.seat.me.0.drawn (greatest l.passes.items) ≡ greatest l.fn.passes.items) × (total overs_of l.fn.passes.items ≡ l.seat.me.0.overs + total overs_of l.passes.items) × AreIdle (line_table l.line) l.passes.items

abbrev pub decreases-loop-pass : goal.decreases-loop-pass
decreases-loop-pass g l = vec_len l.passes
