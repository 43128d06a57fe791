-- The parts of the cells, in an order of the cells.
use Rattle.std.specs.Prelude.{◌≡◌, ℕ, ◌<◌, true, List, All, length, map, Some}
use Rattle.affine_constraints.specs.Lines.{lines_in}
use Rattle.cell_blocks.specs.Blocks.{cell_blocks}
use Rattle.cell_blocks.specs.Visited.{blocks_in}
use Rattle.block_sums.specs.Parts.{part_of_blocks, HoldsAll}
use Rattle.fixed_q1.specs.declared.fault.LocalFault.{LocalFault}
use Rattle.serial_sum.specs.Steps.{IsPartFor}
use Rattle.serial_sum.specs.Parts.{CellPart}
use Rattle.serial_sum.specs.declared.part.Contribution.{Contribution}
use Rattle.sparsity.specs.Coupled.{has}
use Rattle.mesh_loop.specs.Setup.{MeshProblem, pattern_of, written_rows}

-- the part of a cell: the first fault of its blocks, or the contributions of all of them in order
unfoldable pub part_of : MeshProblem → ℕ → CellPart
part_of s cell = part_of_blocks (lines_in s.closed) cell (cell_blocks s.flags s.given cell)

-- the parts of cells in this order
abbrev pub parts_of : MeshProblem → List ℕ → List CellPart
parts_of s order = map (part_of s) order

-- the pattern holds the blocks of a cell, its part may be added, and the rows that the cell writes are all rows
-- to which the part contributes, with one at least where the part has a fault
pub record IsWritten (s : MeshProblem) (cell : ℕ) : Type 0 where
  pub held : HoldsAll (pattern_of s) s.closed (blocks_in (cell_blocks s.flags s.given cell))
  pub part : IsPartFor (pattern_of s) (part_of s cell)
  pub covers : All (λ (c : Contribution). has (written_rows s cell) c.row ≡ true) (part_of s cell).list
  pub shows : (fault : LocalFault) → (part_of s cell).fault ≡ Some fault → (row : ℕ) × (has (written_rows s cell) row ≡ true)
  pub within : (row : ℕ) → has (written_rows s cell) row ≡ true → row < length (pattern_of s)
