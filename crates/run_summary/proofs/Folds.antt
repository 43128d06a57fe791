-- Sums that are made number after number are the sums of the whole.
use Rattle.std.proofs.Common.{◌≡◌, ◌∙◌, refl, ℕ, ℤ, ◌+ℤ◌, List, [], ◌∷◌, fold, map, true, false, cond}
use Rattle.std.specs.Prelude.{Bool, filter}
use Rattle.std.specs.List.{enumerate_from}
use Rattle.matrix_market.specs.Entries.{Triple, entries_of}
use Rattle.run_summary.specs.Summary.{weighted, values_in, is_diagonal, diagonal_sum, matrix_sum, vector_sum}
use Rattle.run_summary.specs.Steps.{no_sum, with_value, no_sums, with_entry}
use Rattle.run_summary.specs.declared.weighted.WeightedSum.{WeightedSum}
use Rattle.run_summary.specs.declared.sums.MatrixSums.{MatrixSums}

weighted_so_far : (values : List ℤ) (before : WeightedSum) →
    (fold with_value before values).sum ≡ fold ◌+ℤ◌ before.sum (map (λ (place : ℕ × ℤ). weighted place.0 place.1) (enumerate_from before.count values))
weighted_so_far [] before = refl
weighted_so_far (value ∷ values) before = weighted_so_far values (with_value before value)

values_so_far : (entries : List Triple) (before : MatrixSums) → (fold with_entry before entries).weighted ≡ fold with_value before.weighted (values_in entries)
values_so_far [] before = refl
values_so_far (entry ∷ entries) before = values_so_far entries (with_entry before entry)

one_more : (b : Bool) (entry : Triple) (rest : List Triple) (sum : ℤ) →
    fold ◌+ℤ◌ (cond b (sum +ℤ entry.2) sum) (values_in rest) ≡ fold ◌+ℤ◌ sum (values_in (cond b (entry ∷ rest) rest))
one_more true entry rest sum = refl
one_more false entry rest sum = refl

diagonal_so_far : (entries : List Triple) (before : MatrixSums) → (fold with_entry before entries).diagonal ≡ fold ◌+ℤ◌ before.diagonal (values_in (filter is_diagonal entries))
diagonal_so_far [] before = refl
diagonal_so_far (entry ∷ entries) before =
    diagonal_so_far entries (with_entry before entry) ∙ one_more (is_diagonal entry) entry (filter is_diagonal entries) before.diagonal

pub whole_vector : (values : List ℤ) → (fold with_value no_sum values).sum ≡ vector_sum values
unfolding vector_sum
whole_vector values = weighted_so_far values no_sum

pub whole_matrix : (pattern : List (List ℕ)) (values : List (List ℤ)) → (fold with_entry no_sums (entries_of pattern values)).weighted.sum ≡ matrix_sum pattern values
unfolding matrix_sum
whole_matrix pattern values = (λ i. (values_so_far (entries_of pattern values) no_sums i).sum) ∙ weighted_so_far (values_in (entries_of pattern values)) no_sum

pub whole_diagonal : (pattern : List (List ℕ)) (values : List (List ℤ)) → (fold with_entry no_sums (entries_of pattern values)).diagonal ≡ diagonal_sum pattern values
unfolding diagonal_sum
whole_diagonal pattern values = diagonal_so_far (entries_of pattern values) no_sums
