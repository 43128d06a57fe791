-- The serial sum, one cell after another.
use Rattle.std.proofs.Common.{◌≡◌, ◌∙◌, sym, ap, subst, ℕ, ◌+◌, ◌<◌, ◌≤◌, List, [], ◌∷◌, ◌++◌, length, map, arith, Some, None, Ok, Err}
use Rattle.std.specs.Prelude.{fold}
use Rattle.std.specs.List.{All, range_with_len}
use Rattle.std.specs.declared.option.Option.{Option}
use Rattle.std.specs.declared.result.Result.{Result}
use Rattle.std.proofs.lemmas.List.Elements.{All-push}
use Rattle.std.proofs.lemmas.List.FromFn.{map-range_with_len_more}
use Rattle.std.proofs.lemmas.List.Sums.{fold-append}
use Rattle.affine_constraints.specs.Lines.{AffineLine, lines_in}
use Rattle.cell_blocks.specs.Blocks.{cell_blocks}
use Rattle.cell_blocks.specs.Visited.{fault_in}
use Rattle.block_sums.specs.Parts.{part_of_blocks}
use Rattle.fixed_q1.specs.declared.fault.LocalFault.{LocalFault}
use Rattle.cell_blocks.specs.LocalBlocks.{LocalBlock}
use Rattle.serial_sum.specs.Columns.{AreRising}
use Rattle.serial_sum.specs.SerialSum.{SumIs}
use Rattle.serial_sum.specs.Steps.{step_of, formed_step, zero_state, answer_of, failure_fault, FaultIs, IsPartFor}
use Rattle.serial_sum.specs.Parts.{CellPart}
use Rattle.serial_sum.specs.declared.sum.Failure.{Failure}
use Rattle.serial_sum.specs.declared.sum.MatrixState.{MatrixState}
use Rattle.serial_sum.proofs.RowLaws.{rows_rising as columns_rise}
use Rattle.serial_sum.proofs.StateLaws.{steps_give, fault_says}
use Rattle.sparsity.proofs.Listing.{rows_rising}
use Rattle.sparsity.specs.declared.rows.Row.{Row}
use Rattle.mesh_loop.specs.Setup.{MeshProblem, cells_of, coupled_dofs, pattern_of}
use Rattle.mesh_loop.specs.Sum.{part_of, parts_of}
use Rattle.mesh_loop.proofs.FirstFailure.{first_failure}

abbrev pub state_at : List Row → Option Failure → MatrixState
state_at rows failure = record { rows = rows; failure = failure }

-- the state after the first cells
unfoldable pub summed : ℕ → MeshProblem → ℕ → MatrixState
summed digits s k = fold (step_of digits (pattern_of s)) (zero_state (pattern_of s)) (parts_of s (range_with_len 0 k))

pub none_summed : (digits : ℕ) (s : MeshProblem) (rows : List Row) (pattern : List (List ℕ)) → pattern ≡ pattern_of s → state_at rows None ≡ zero_state pattern → state_at rows None ≡ summed digits s 0
unfolding summed
none_summed digits s rows pattern is zeros = zeros ∙ ap zero_state is

one_more : (digits : ℕ) (s : MeshProblem) (k : ℕ) → summed digits s (k + 1) ≡ step_of digits (pattern_of s) (summed digits s k) (part_of s k)
unfolding summed
one_more digits s k =
    ap (fold (step_of digits (pattern_of s)) (zero_state (pattern_of s))) (map-range_with_len_more (part_of s) 0 k k (omega arith))
    ∙ fold-append (step_of digits (pattern_of s)) (zero_state (pattern_of s)) (parts_of s (range_with_len 0 k)) (part_of s k ∷ [])

part_is : (s : MeshProblem) (cell : ℕ) (table : List (Option AffineLine)) (copy : Result (List LocalBlock) LocalFault) → table ≡ s.closed → copy ≡ cell_blocks s.flags s.given cell → part_of_blocks (lines_in table) cell copy ≡ part_of s cell
unfolding part_of
part_is s cell table copy closed made = ap (λ (t : List (Option AffineLine)). part_of_blocks (lines_in t) cell copy) closed ∙ ap (part_of_blocks (lines_in s.closed) cell) made

formed : (digits : ℕ) (pattern other : List (List ℕ)) (rows : List Row) (part same : CellPart) → pattern ≡ other → part ≡ same → formed_step digits pattern rows part part.fault ≡ formed_step digits other rows same same.fault
formed digits pattern other rows part same e f = ap (λ p. formed_step digits p rows part part.fault) e ∙ ap (λ (p : CellPart). formed_step digits other rows p p.fault) f

pub cell_summed : (s : MeshProblem) (digits cell : ℕ) (pattern : List (List ℕ)) (table : List (Option AffineLine)) (copy : Result (List LocalBlock) LocalFault) (rows now : List Row) (failure : Option Failure) →
    pattern ≡ pattern_of s → table ≡ s.closed → copy ≡ cell_blocks s.flags s.given cell → state_at rows None ≡ summed digits s cell →
    state_at now failure ≡ formed_step digits pattern rows (part_of_blocks (lines_in table) cell copy) (fault_in copy) → state_at now failure ≡ summed digits s (cell + 1)
cell_summed s digits cell pattern table copy rows now failure is closed made before step =
    step
    ∙ formed digits pattern (pattern_of s) rows (part_of_blocks (lines_in table) cell copy) (part_of s cell) is (part_is s cell table copy closed made)
    ∙ ap (λ st. step_of digits (pattern_of s) st (part_of s cell)) before
    ∙ sym (one_more digits s cell)

pub cell_allowed : (s : MeshProblem) (cell : ℕ) (pattern : List (List ℕ)) (table : List (Option AffineLine)) (copy : Result (List LocalBlock) LocalFault) → pattern ≡ pattern_of s → table ≡ s.closed →
    copy ≡ cell_blocks s.flags s.given cell → All (IsPartFor (pattern_of s)) (parts_of s (range_with_len 0 cell)) → IsPartFor pattern (part_of_blocks (lines_in table) cell copy) →
    All (IsPartFor (pattern_of s)) (parts_of s (range_with_len 0 (cell + 1)))
cell_allowed s cell pattern table copy is closed made before here =
    let P : List (List ℕ) → Type 0 = λ p. IsPartFor p (part_of_blocks (lines_in table) cell copy) in
    let Q : List CellPart → Type 0 = All (IsPartFor (pattern_of s)) in
    let one : IsPartFor (pattern_of s) (part_of s cell) = subst (IsPartFor (pattern_of s)) (part_is s cell table copy closed made) (subst P is here) in
    subst Q (sym (map-range_with_len_more (part_of s) 0 cell cell (omega arith))) (All-push (IsPartFor (pattern_of s)) (parts_of s (range_with_len 0 cell)) (part_of s cell) before one)

pub pattern_rises : (s : MeshProblem) → AreRising (pattern_of s)
unfolding pattern_of
pattern_rises s = columns_rise (pattern_of s) (rows_rising (coupled_dofs s))

sum_so_far : (digits : ℕ) (s : MeshProblem) (k : ℕ) → All (IsPartFor (pattern_of s)) (parts_of s (range_with_len 0 k)) → SumIs digits (pattern_of s) (parts_of s (range_with_len 0 k)) (answer_of (summed digits s k))
unfolding summed
sum_so_far digits s k allowed = steps_give digits (pattern_of s) (parts_of s (range_with_len 0 k)) (pattern_rises s) allowed

pub whole_sum : (digits : ℕ) (s : MeshProblem) (k : ℕ) (rows : List Row) → k ≡ length s.given.forest.cells → All (IsPartFor (pattern_of s)) (parts_of s (range_with_len 0 k)) → state_at rows None ≡ summed digits s k →
    SumIs digits (pattern_of s) (parts_of s (cells_of s)) (Ok rows)
whole_sum digits s k rows count allowed are =
    let P : MatrixState → Type 0 = λ st. SumIs digits (pattern_of s) (parts_of s (range_with_len 0 k)) (answer_of st) in
    let Q : ℕ → Type 0 = λ n. SumIs digits (pattern_of s) (parts_of s (range_with_len 0 n)) (Ok rows) in
    subst Q count (subst P (sym are) (sum_so_far digits s k allowed))

pub failed_sum : (digits : ℕ) (s : MeshProblem) (k : ℕ) (rows : List Row) (failure : Failure) → k ≤ length s.given.forest.cells → All (IsPartFor (pattern_of s)) (parts_of s (range_with_len 0 k)) →
    state_at rows (Some failure) ≡ summed digits s k → FaultIs digits (pattern_of s) (parts_of s (cells_of s)) (failure_fault failure)
failed_sum digits s k rows failure within allowed are =
    let P : MatrixState → Type 0 = λ st. SumIs digits (pattern_of s) (parts_of s (range_with_len 0 k)) (answer_of st) in
    fault_says digits (pattern_of s) (parts_of s (cells_of s)) failure
    (first_failure digits (pattern_of s) (part_of s) k (length s.given.forest.cells) failure within (subst P (sym are) (sum_so_far digits s k allowed)))
