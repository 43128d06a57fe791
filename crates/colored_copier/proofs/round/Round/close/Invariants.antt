use Rattle.std.proofs.Common.{◌≡◌, ◌≤◌, ◌<◌, ◌+◌, vec_len, []}
use Rattle.colored_copier.specs.Rule.{total}
use Rattle.colored_copier.specs.Phases.{Free}
use Rattle.colored_copier.specs.Tables.{table_of, key_of}
use Rattle.colored_copier.specs.Ending.{AreDone, overs_of}
use Rattle.colored_copier.proofs.round.Round.close.Given as goal

abbrev pub invariant-loop-pass : goal.invariant-loop-pass
invariant-loop-pass g l = (l.seat.table_id ≡ table_of l.table) × Free l.seat.me.0.phase × (l.seat.me.1 ≡ []) × (l.seat.me.0.parts + vec_len l.passes ≡ (key_of l.table).seats) × (l.seat.me.0.overs ≤ l.seat.me.0.parts) × (0 < l.seat.me.0.overs + total overs_of l.passes.items) × AreDone (table_of l.table) l.passes.items

abbrev pub decreases-loop-pass : goal.decreases-loop-pass
decreases-loop-pass g l = vec_len l.passes
