-- What the state after all cells tells of the serial sum.
use Rattle.std.proofs.Common.{◌≡◌, ◌∙◌, sym, ap, subst, ℕ, ◌<◌, List, length, map, arith, Some, None, Ok, Err, refl, get_or}
use Rattle.std.specs.List.{All, range_with_len}
use Rattle.std.specs.declared.option.Option.{Option}
use Rattle.std.proofs.lemmas.List.FromFn.{length-map-range_with_len, get_or-map-range_with_len}
use Rattle.serial_sum.specs.Rows.{FitsRows}
use Rattle.serial_sum.specs.SerialSum.{SumIs}
use Rattle.serial_sum.specs.Steps.{zero_state, answer_of, failure_fault, FaultIs, IsPartFor}
use Rattle.serial_sum.specs.Parts.{CellPart}
use Rattle.serial_sum.specs.declared.sum.Failure.{Failure}
use Rattle.serial_sum.specs.declared.sum.MatrixState.{MatrixState}
use Rattle.serial_sum.proofs.StateLaws.{zero_fits, steps_give, fault_says}
use Rattle.sparsity.specs.Rows.{zero_row}
use Rattle.sparsity.specs.declared.rows.Row.{Row}
use Rattle.mesh_loop.specs.Setup.{MeshProblem, cells_of, pattern_of}
use Rattle.mesh_loop.specs.Sum.{part_of, parts_of, IsWritten}
use Rattle.mesh_loop.proofs.Summing.{state_at, pattern_rises}
use Rattle.ordered_sum.specs.Chunks.{state_after}

-- rows of zeros fit
pub zeros_fit : (s now : MeshProblem) (pattern : List (List ℕ)) (rows : List Row) → now ≡ s → pattern ≡ pattern_of s → rows ≡ map zero_row pattern → FitsRows (pattern_of now) rows
zeros_fit s now pattern rows same is zeros =
    let P : MeshProblem → Type 0 = λ t. FitsRows (pattern_of t) rows in
    let Q : List (List ℕ) → Type 0 = λ p. FitsRows p rows in
    let R : List Row → Type 0 = λ r. FitsRows pattern r in
    subst P (sym same) (subst Q is (subst R (sym zeros) (zero_fits pattern)))

-- the state after all cells of a job is that of its set-up and digits
pub end_of : (digits same : ℕ) (s now : MeshProblem) (start end : MatrixState) → same ≡ digits → now ≡ s → end ≡ state_after same now start (cells_of now) → end ≡ state_after digits s start (cells_of s)
end_of digits same s now start end d e ends = ends ∙ ap (λ n. state_after n now start (cells_of now)) d ∙ ap (λ (t : MeshProblem). state_after digits t start (cells_of t)) e

-- each part may be added
pub parts_allowed : (s : MeshProblem) → ((cell : ℕ) → cell < length s.given.forest.cells → IsWritten s cell) → All (IsPartFor (pattern_of s)) (parts_of s (cells_of s))
parts_allowed s written = λ k d inside.
    let n : ℕ = length s.given.forest.cells in
    let below : k < n = omega (arith, inside, length-map-range_with_len (part_of s) 0 n) in
    let P : CellPart → Type 0 = IsPartFor (pattern_of s) in
    subst P (sym (get_or-map-range_with_len (part_of s) 0 n k k d below (omega arith))) (written k below).part

end_tells : (digits : ℕ) (s : MeshProblem) (pattern : List (List ℕ)) (start end : MatrixState) → ((cell : ℕ) → cell < length s.given.forest.cells → IsWritten s cell) → pattern ≡ pattern_of s → start ≡ zero_state pattern →
    end ≡ state_after digits s start (cells_of s) → SumIs digits (pattern_of s) (parts_of s (cells_of s)) (answer_of end)
end_tells digits s pattern start end written is zeros e =
    let P : MatrixState → Type 0 = λ st. SumIs digits (pattern_of s) (parts_of s (cells_of s)) (answer_of st) in
    subst P (sym (e ∙ ap (λ (st : MatrixState). state_after digits s st (cells_of s)) (zeros ∙ ap zero_state is)))
    (steps_give digits (pattern_of s) (parts_of s (cells_of s)) (pattern_rises s) (parts_allowed s written))

-- with no failure the rows are the sum
pub rows_tell : (digits : ℕ) (s : MeshProblem) (pattern : List (List ℕ)) (start : MatrixState) (rows : List Row) (failure : Option Failure) → ((cell : ℕ) → cell < length s.given.forest.cells → IsWritten s cell) →
    pattern ≡ pattern_of s → start ≡ zero_state pattern → state_at rows failure ≡ state_after digits s start (cells_of s) → failure ≡ None → SumIs digits (pattern_of s) (parts_of s (cells_of s)) (Ok rows)
rows_tell digits s pattern start rows failure written is zeros e none =
    let P : Option Failure → Type 0 = λ f. SumIs digits (pattern_of s) (parts_of s (cells_of s)) (answer_of (state_at rows f)) in
    subst P none (end_tells digits s pattern start (state_at rows failure) written is zeros e)

-- and a failure is how the sum fails
pub failure_tells : (digits : ℕ) (s : MeshProblem) (pattern : List (List ℕ)) (start : MatrixState) (rows : List Row) (failure : Option Failure) (told : Failure) → ((cell : ℕ) → cell < length s.given.forest.cells → IsWritten s cell) →
    pattern ≡ pattern_of s → start ≡ zero_state pattern → state_at rows failure ≡ state_after digits s start (cells_of s) → failure ≡ Some told → FaultIs digits (pattern_of s) (parts_of s (cells_of s)) (failure_fault told)
failure_tells digits s pattern start rows failure told written is zeros e some =
    let P : Option Failure → Type 0 = λ f. SumIs digits (pattern_of s) (parts_of s (cells_of s)) (answer_of (state_at rows f)) in
    fault_says digits (pattern_of s) (parts_of s (cells_of s)) told (subst P some (end_tells digits s pattern start (state_at rows failure) written is zeros e))
