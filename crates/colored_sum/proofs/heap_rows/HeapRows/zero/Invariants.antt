use Rattle.sparsity.proofs.Numbered.{Zeros}
use Rattle.colored_sum.proofs.heap_rows.HeapRows.zero.Given as goal

abbrev pub invariant-loop-i : goal.invariant-loop-i
invariant-loop-i l = Zeros l.rows.items l.pattern l.i
