use Rattle.std.proofs.Common.{ℕ, ◌<◌, slice_index_or}
use Rattle.serial_sum.proofs.columns.counted_place.Given as goal

abbrev pub invariant-loop-place : goal.invariant-loop-place
invariant-loop-place l = (k : ℕ) → k < l.place → slice_index_or l.columns k 0 < l.j
