use Rattle.std.proofs.Common.{◌≡◌, ℕ, length, slice_index_or}
use Rattle.std.specs.Prelude.{None}
use Rattle.dof_numbers.proofs.hanging.no_masters.Given as goal

abbrev pub invariant-loop : goal.invariant-loop
invariant-loop l = record {
  len : length l.table.items ≡ l.counter;
  none : (dof : ℕ) → slice_index_or l.table.items dof None ≡ None;
}
