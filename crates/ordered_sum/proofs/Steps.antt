-- Cells and chunks of cells added to a state, one after another.
use Rattle.std.proofs.Common.{◌≡◌, ◌∙◌, sym, ap, subst, refl, ℕ, zero, suc, ◌+◌, ◌*◌, ◌<◌, ◌≤◌, List, [], ◌∷◌, ◌++◌, length, map, take, drop, arith}
use Rattle.std.proofs.Math.Seq.{take-add}
use Rattle.std.specs.Prelude.{fold}
use Rattle.std.specs.List.{range_with_len}
use Rattle.std.specs.declared.option.Option.{Option}
use Rattle.std.specs.declared.result.Result.{Result}
use Rattle.std.proofs.lemmas.List.{map-append, take_all}
use Rattle.std.proofs.lemmas.List.FromFn.{map-range_with_len_more, length-range_with_len}
use Rattle.std.proofs.lemmas.List.Sums.{fold-append}
use Rattle.affine_constraints.specs.Lines.{AffineLine, lines_in}
use Rattle.cell_blocks.specs.Blocks.{cell_blocks}
use Rattle.cell_blocks.specs.Visited.{blocks_in}
use Rattle.block_sums.specs.Parts.{part_of_blocks, HoldsAll}
use Rattle.fixed_q1.specs.declared.fault.LocalFault.{LocalFault}
use Rattle.cell_blocks.specs.LocalBlocks.{LocalBlock}
use Rattle.serial_sum.specs.Steps.{step_of}
use Rattle.serial_sum.specs.Parts.{CellPart}
use Rattle.serial_sum.specs.declared.sum.MatrixState.{MatrixState}
use Rattle.mesh_loop.specs.Setup.{MeshProblem, cells_of, pattern_of}
use Rattle.mesh_loop.specs.Sum.{part_of, parts_of, IsWritten}
use Rattle.mesh_loop.proofs.Held.{held_by}
use Rattle.ordered_pipeline.specs.Fold as pipeline
use Rattle.ordered_sum.specs.Chunks.{chunks_of, chunk_cells, state_after}
use Rattle.ordered_sum.proofs.Stretches.{chunks_reach}

part_is : (s : MeshProblem) (cell : ℕ) (table : List (Option AffineLine)) (copy : Result (List LocalBlock) LocalFault) → table ≡ s.closed → copy ≡ cell_blocks s.flags s.given cell → part_of_blocks (lines_in table) cell copy ≡ part_of s cell
unfolding part_of
part_is s cell table copy closed made = ap (λ (t : List (Option AffineLine)). part_of_blocks (lines_in t) cell copy) closed ∙ ap (part_of_blocks (lines_in s.closed) cell) made

-- the pattern holds the blocks of a copy object that stands for a cell
pub copy_held : (s : MeshProblem) (cell : ℕ) (pattern : List (List ℕ)) (table : List (Option AffineLine)) (copy : Result (List LocalBlock) LocalFault) → pattern ≡ pattern_of s → table ≡ s.closed → copy ≡ cell_blocks s.flags s.given cell →
    IsWritten s cell → HoldsAll pattern table (blocks_in copy)
copy_held s cell pattern table copy is closed made written =
    let P : Result (List LocalBlock) LocalFault → Type 0 = λ r. HoldsAll (pattern_of s) s.closed (blocks_in r) in
    held_by s pattern table (blocks_in copy) is closed (subst P (sym made) written.held)

-- the state after one cell more
pub one_added : (digits : ℕ) (s : MeshProblem) (first k : ℕ) (pattern : List (List ℕ)) (table : List (Option AffineLine)) (copy : Result (List LocalBlock) LocalFault) (start before now : MatrixState) →
    pattern ≡ pattern_of s → table ≡ s.closed → copy ≡ cell_blocks s.flags s.given (first + k) → before ≡ state_after digits s start (range_with_len first k) →
    now ≡ step_of digits pattern before (part_of_blocks (lines_in table) (first + k) copy) → now ≡ state_after digits s start (range_with_len first (k + 1))
one_added digits s first k pattern table copy start before now is closed made so_far step =
    let part : CellPart = part_of s (first + k) in
    let parts : List CellPart = parts_of s (range_with_len first k) in
    step
    ∙ ap (λ p. step_of digits pattern before p) (part_is s (first + k) table copy closed made)
    ∙ ap (λ q. step_of digits q before part) is
    ∙ ap (λ st. step_of digits (pattern_of s) st part) so_far
    ∙ sym (fold-append (step_of digits (pattern_of s)) start parts (part ∷ []))
    ∙ sym (ap (fold (step_of digits (pattern_of s)) start) (map-range_with_len_more (part_of s) first k (first + k) refl))

both_after : (digits : ℕ) (s : MeshProblem) (start : MatrixState) (cells more : List ℕ) → state_after digits s (state_after digits s start cells) more ≡ state_after digits s start (cells ++ more)
both_after digits s start cells more =
    sym (fold-append (step_of digits (pattern_of s)) start (parts_of s cells) (parts_of s more))
    ∙ sym (ap (fold (step_of digits (pattern_of s)) start) (map-append (part_of s) cells more))

chunk_more : (digits : ℕ) (s : MeshProblem) (chunk k : ℕ) (start : MatrixState) → state_after digits s (state_after digits s start (take (k * chunk) (cells_of s))) (chunk_cells s chunk k) ≡ state_after digits s start (take (suc k * chunk) (cells_of s))
unfolding chunk_cells
chunk_more digits s chunk k start =
    let wide : k * chunk + chunk ≡ suc k * chunk = omega arith in
    both_after digits s start (take (k * chunk) (cells_of s)) (take chunk (drop (k * chunk) (cells_of s)))
    ∙ ap (state_after digits s start) (sym (take-add (k * chunk) chunk (cells_of s)) ∙ ap (λ n. take n (cells_of s)) wide)

module _ {J : Type 0} (step : J → MatrixState → ℕ → MatrixState) (job : J) (digits : ℕ) (s : MeshProblem) (chunk : ℕ) where
  -- the state of a pipeline after its first items is that after the cells of their chunks
  chunks_after : ((state : MatrixState) (k : ℕ) → step job state k ≡ state_after digits s state (chunk_cells s chunk k)) → (start : MatrixState) (n : ℕ) → pipeline.fold step job start n ≡ state_after digits s start (take (n * chunk) (cells_of s))
  chunks_after steps start zero = (let none : 0 ≡ 0 * chunk = omega arith in ap (λ n. state_after digits s start (take n (cells_of s))) none)
  chunks_after steps start (suc n) =
      steps (pipeline.fold step job start n) n
      ∙ ap (λ (state : MatrixState). state_after digits s state (chunk_cells s chunk n)) (chunks_after steps start n)
      ∙ chunk_more digits s chunk n start

  -- after all its items it is that after all cells
  all_after : ((state : MatrixState) (k : ℕ) → step job state k ≡ state_after digits s state (chunk_cells s chunk k)) → (start : MatrixState) (n : ℕ) → length s.given.forest.cells ≤ n * chunk →
      pipeline.fold step job start n ≡ state_after digits s start (cells_of s)
  all_after steps start n reach =
      let few : length (cells_of s) ≤ n * chunk = omega (arith, reach, length-range_with_len 0 (length s.given.forest.cells)) in
      chunks_after steps start n ∙ ap (state_after digits s start) (take_all (n * chunk) (cells_of s) few)

-- a run over all items ends so
pub all_ended : {J : Type 0} (step : J → MatrixState → ℕ → MatrixState) (job : J) (digits : ℕ) (s : MeshProblem) (chunk : ℕ) (start end : MatrixState) (count : ℕ) →
    ((state : MatrixState) (k : ℕ) → step job state k ≡ state_after digits s state (chunk_cells s chunk k)) → count ≡ chunks_of s chunk → 0 < chunk → end ≡ pipeline.fold step job start count → end ≡ state_after digits s start (cells_of s)
all_ended step job digits s chunk start end count steps many some ends =
    let n : ℕ = length s.given.forest.cells in
    let P : ℕ → Type 0 = λ m. n ≤ m * chunk in
    ends ∙ all_after step job digits s chunk steps start count (subst P (sym many) (chunks_reach n chunk some))
