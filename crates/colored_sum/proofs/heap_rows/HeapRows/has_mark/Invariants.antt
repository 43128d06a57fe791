use Rattle.colored_sum.proofs.HeldMarks.{ClearBelow}
use Rattle.colored_sum.proofs.heap_rows.HeapRows.has_mark.Given as goal

abbrev pub invariant-loop-i : goal.invariant-loop-i
invariant-loop-i l = ClearBelow l.self l.i
