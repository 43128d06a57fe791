-- The sums number after number, as they are made.
use Rattle.std.specs.Prelude.{◌+◌, ◌*◌, ◌^◌, ◌≤◌, ℤ, pos, ◌+ℤ◌, unsigned_abs, if◌then◌else◌}
use Rattle.matrix_market.specs.Entries.{Triple}
use Rattle.run_summary.specs.Summary.{weighted, is_diagonal}
use Rattle.run_summary.specs.declared.weighted.WeightedSum.{WeightedSum}
use Rattle.run_summary.specs.declared.sums.MatrixSums.{MatrixSums}

-- the weighted sum of no number
abbrev pub no_sum : WeightedSum
no_sum = record { count = 0; sum = pos 0 }

-- one number more
abbrev pub with_value : WeightedSum → ℤ → WeightedSum
with_value before value = record { count = before.count + 1; sum = before.sum +ℤ weighted before.count value }

-- the sum is one of small numbers
pub record IsWithin (sum : WeightedSum) : Type 0 where
  pub size : unsigned_abs sum.sum ≤ 2 ^ 83 * sum.count

-- the sums of no entry
abbrev pub no_sums : MatrixSums
no_sums = record { diagonal = pos 0; weighted = no_sum }

-- one entry more
abbrev pub with_entry : MatrixSums → Triple → MatrixSums
with_entry before entry = record {
  diagonal = if is_diagonal entry then before.diagonal +ℤ entry.2 else before.diagonal;
  weighted = with_value before.weighted entry.2;
}

-- the sums are of small numbers
pub record AreWithin (sums : MatrixSums) : Type 0 where
  pub diagonal : unsigned_abs sums.diagonal ≤ 2 ^ 80 * sums.weighted.count
  pub weighted : IsWithin sums.weighted
