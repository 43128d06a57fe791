use Rattle.std.proofs.Common.{◌≡◌, [], length, take}
use Rattle.std.specs.List.{list_any}
use Rattle.conflict_coloring.specs.Conflict.{conflict}
use Rattle.conflict_coloring.specs.Steps.{Marks, AreSeen}
use Rattle.conflict_coloring.proofs.zones.spread.Given as goal

abbrev pub invariant-loop-c : goal.invariant-loop-c
invariant-loop-c l = record {
  marks : Marks (λ d. list_any (λ c. conflict l.conflicts c d) (take l.c-index l.last)) (length l.conflicts) l.initial.zones l.zones [] l.next.items 4294967295 l.zone;
  seen_each : length l.seen ≡ length l.starts;
  seen : AreSeen l.conflicts l.zones 4294967295 l.seen;
}
