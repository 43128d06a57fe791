use Rattle.std.proofs.Common.{◌≡◌, ◌≤◌, ◌-◌, vec_len, []}
use Rattle.std.specs.Vec.{vec_capacity}
use Rattle.ordered_pipeline.specs.declared.view.Phase.TheVariants.{Idle}
use Rattle.ordered_pipeline.specs.Machine.{view, known}
use Rattle.ordered_pipeline.specs.Lines.{line_table, line_key}
use Rattle.ordered_pipeline.specs.Fresh.{fresh_passes}
use Rattle.ordered_pipeline.proofs.pipeline.deal.Given as goal

abbrev pub invariant-loop-number : goal.invariant-loop-number
invariant-loop-number g l = (l.seat.table_id ≡ line_table l.line) × (l.seat.me ≡ (view (l.seats - l.number) 0 l.number Idle 0 0 0 (known (line_key l.line)), [])) × (l.passes.items ≡ fresh_passes (line_table l.line) (line_key l.line) l.number)
    × (vec_len l.passes ≡ l.number) × (l.seats ≤ vec_capacity l.passes)
