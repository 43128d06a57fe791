-- One row after a cell of a round.
use Rattle.std.proofs.Common.{◌≡◌, ◌∙◌, sym, ap, subst, refl, ℕ, zero, suc, ◌<◌, List, [], ◌∷◌, length, map, arith, slice_index, slice_index_or, None}
use Rattle.std.specs.declared.option.Option.{Option}
use Rattle.std.specs.declared.result.Result.{Result}
use Rattle.affine_constraints.specs.Lines.{AffineLine, lines_in}
use Rattle.cell_blocks.specs.Blocks.{cell_blocks}
use Rattle.cell_blocks.specs.Visited.{blocks_in}
use Rattle.block_sums.specs.Parts.{part_of_blocks, HoldsAll}
use Rattle.fixed_q1.specs.declared.fault.LocalFault.{LocalFault}
use Rattle.cell_blocks.specs.LocalBlocks.{LocalBlock}
use Rattle.serial_sum.specs.Columns.{columns_at}
use Rattle.serial_sum.specs.Rows.{FitsRow}
use Rattle.serial_sum.specs.Marks.{row_after}
use Rattle.serial_sum.specs.SerialSum.{part_at}
use Rattle.serial_sum.specs.Parts.{CellPart}
use Rattle.sparsity.specs.declared.rows.Row.{Row}
use Rattle.mesh_loop.specs.Setup.{MeshProblem, pattern_of}
use Rattle.mesh_loop.specs.Sum.{part_of, parts_of, IsWritten}
use Rattle.colored_sum.specs.Rounds.{row_with}

pub no_part : CellPart
no_part = record { cell = 0; fault = None; list = [] }

pub map_at : {X : Type 0} (f : ℕ → X) (xs : List ℕ) (k d : ℕ) (e : X) → k < length xs → slice_index_or (map f xs) k e ≡ f (slice_index_or xs k d)
map_at f [] k d e h = absurd (omega (arith, h))
map_at f (x ∷ xs) zero d e h = refl
map_at f (x ∷ xs) (suc k) d e h = map_at f xs k d e (omega (arith, h))

-- the part of item k
pub part_there : (s : MeshProblem) (cells : List ℕ) (k : ℕ) → k < length cells → part_at (parts_of s cells) k ≡ part_of s (slice_index cells k)
part_there s cells k h = map_at (part_of s) cells k 0 (record { cell = 0; fault = None; list = [] }) h

-- a row after the blocks of item k
part_is : (s : MeshProblem) (cell : ℕ) (table : List (Option AffineLine)) (copy : Result (List LocalBlock) LocalFault) → table ≡ s.closed → copy ≡ cell_blocks s.flags s.given cell → part_of_blocks (lines_in table) cell copy ≡ part_of s cell
unfolding part_of
part_is s cell table copy closed made = ap (λ (t : List (Option AffineLine)). part_of_blocks (lines_in t) cell copy) closed ∙ ap (part_of_blocks (lines_in s.closed) cell) made

pub row_stepped : (s : MeshProblem) (cells : List ℕ) (digits k i cell : ℕ) (row now : Row) (pattern : List (List ℕ)) (table : List (Option AffineLine)) (copy : Result (List LocalBlock) LocalFault) → k < length cells → cell ≡ slice_index cells k →
    pattern ≡ pattern_of s → table ≡ s.closed → copy ≡ cell_blocks s.flags s.given (slice_index cells k) → now ≡ row_after digits (columns_at pattern i) i row (part_of_blocks (lines_in table) cell copy) → now ≡ row_with s cells digits row k i
row_stepped s cells digits k i cell row now pattern table copy inside at is closed made step =
    step
    ∙ ap (λ (p : List (List ℕ)). row_after digits (columns_at p i) i row (part_of_blocks (lines_in table) cell copy)) is
    ∙ ap (λ (p : CellPart). row_after digits (columns_at (pattern_of s) i) i row p)
    (ap (λ n. part_of_blocks (lines_in table) n copy) at ∙ part_is s (slice_index cells k) table copy closed made ∙ sym (part_there s cells k inside))

-- the pattern holds the blocks of item k
pub copy_held : (s : MeshProblem) (cells : List ℕ) (k : ℕ) (pattern : List (List ℕ)) (table : List (Option AffineLine)) (copy : Result (List LocalBlock) LocalFault) → IsWritten s (slice_index cells k) →
    pattern ≡ pattern_of s → table ≡ s.closed → copy ≡ cell_blocks s.flags s.given (slice_index cells k) → HoldsAll pattern table (blocks_in copy)
copy_held s cells k pattern table copy written is closed made =
    let P : List (List ℕ) → Type 0 = λ p. HoldsAll p table (blocks_in copy) in
    let Q : List (Option AffineLine) → Type 0 = λ t. HoldsAll (pattern_of s) t (blocks_in copy) in
    let R : Result (List LocalBlock) LocalFault → Type 0 = λ r. HoldsAll (pattern_of s) s.closed (blocks_in r) in
    subst P (sym is) (subst Q (sym closed) (subst R (sym made) written.held))

pub row_fits : (s : MeshProblem) (i : ℕ) (row : Row) (pattern : List (List ℕ)) → pattern ≡ pattern_of s → FitsRow (columns_at (pattern_of s) i) row → FitsRow (columns_at pattern i) row
row_fits s i row pattern is fits = let P : List (List ℕ) → Type 0 = λ p. FitsRow (columns_at p i) row in subst P (sym is) fits
