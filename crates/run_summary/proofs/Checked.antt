-- What holds of the rows so far.
use Rattle.std.proofs.Common.{◌≡◌, sym, subst, ℕ, ◌+◌, ◌<◌, ◌≤◌, List, length, map, take, arith}
use Rattle.std.specs.Prelude.{All, slice_index_or}
use Rattle.std.proofs.lemmas.List.{length-map, take_all}
use Rattle.std.proofs.lemmas.List.Elements.{All-more, All-same}
use Rattle.sparsity.specs.declared.rows.Row.{Row}
use Rattle.run_summary.proofs.Passes.{row_of}

-- of a row more
pub part_more : {X : Type 0} (part : Row → X) (P : X → Type 0) (rows : List Row) (i : ℕ) (row : Row) → i < length rows → row ≡ slice_index_or rows i row → P (part row) →
    All P (take i (map part rows)) → All P (take (i + 1) (map part rows))
part_more part P rows i row h e here so_far =
    All-more P (map part rows) i (part row) (let count : length (map part rows) ≡ length rows = length-map rows part in omega arith) so_far (subst P (sym (row_of part rows i row h e)) here)

-- of all rows
pub part_end : {X : Type 0} (part : Row → X) (P : X → Type 0) (rows : List Row) (i : ℕ) → length rows ≤ i → All P (take i (map part rows)) → All P (map part rows)
part_end part P rows i h all =
    All-same P (map part rows) (take i (map part rows)) (sym (take_all i (map part rows) (let count : length (map part rows) ≡ length rows = length-map rows part in omega arith))) all
