use Rattle.serial_sum.proofs.FirstMarks.{FirstBelow}
use Rattle.serial_sum.proofs.marks.first_failure.Given as goal

abbrev pub invariant-loop-i : goal.invariant-loop-i
invariant-loop-i l = FirstBelow l.rows l.i l.first
