use Rattle.std.proofs.Common.{◌≡◌, length, take}
use Rattle.std.specs.List.{list_any}
use Rattle.conflict_coloring.specs.Conflict.{has, rows_of}
use Rattle.conflict_coloring.specs.Steps.{Marks, AreSeen}
use Rattle.conflict_coloring.proofs.zones.mark_near.Given as goal

abbrev pub invariant-loop-row : goal.invariant-loop-row
invariant-loop-row l = record {
  marks : Marks (λ d. list_any (has (rows_of l.conflicts d)) (take l.row-index l.row-items)) (length l.conflicts) l.initial.zones l.zones l.initial.next.items l.next.items 4294967295 l.zone;
  seen_each : length l.seen ≡ length l.starts;
  seen : AreSeen l.conflicts l.zones 4294967295 l.seen;
}
