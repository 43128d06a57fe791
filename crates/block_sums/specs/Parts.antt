-- The part of a cell, by its blocks.
use Rattle.std.specs.Prelude.{ℕ, ◌<◌, List, All, length}
use Rattle.std.specs.declared.option.Option.{Option}
use Rattle.std.specs.declared.result.Result.{Result}
use Rattle.std.specs.List.{flat_map}
use Rattle.affine_constraints.specs.Lines.{AffineLine, Lines, lines_in}
use Rattle.fixed_q1.specs.declared.fault.LocalFault.{LocalFault}
use Rattle.cell_blocks.specs.LocalBlocks.{LocalBlock}
use Rattle.cell_blocks.specs.Visited.{fault_in, blocks_in}
use Rattle.serial_sum.specs.Parts.{CellPart}
use Rattle.serial_sum.specs.declared.part.Contribution.{Contribution}
use Rattle.block_sums.specs.Masters.{Holds}
use Rattle.block_sums.specs.Contributions.{contributions}

-- the contributions of all blocks of a cell in order; none after a fault
abbrev pub cell_contributions : Lines → Result (List LocalBlock) LocalFault → List Contribution
cell_contributions lines blocks = flat_map (contributions lines) (blocks_in blocks)

-- the part of a cell: the first fault of its blocks, or the contributions of all of them in order
abbrev pub part_of_blocks : Lines → ℕ → Result (List LocalBlock) LocalFault → CellPart
part_of_blocks lines cell blocks = record { cell = cell; fault = fault_in blocks; list = cell_contributions lines blocks }

-- each dof of these blocks is below the size
abbrev pub AreBelow : ℕ → List LocalBlock → Type 0
AreBelow size blocks = All (λ block. All (λ dof. dof < size) block.dofs) blocks

-- each dof of the block has a place in the table of lines, and the pattern has all pairs of their masters
pub record IsHeld (pattern : List (List ℕ)) (table : List (Option AffineLine)) (block : LocalBlock) : Type 0 where
  pub dofs : All (λ dof. dof < length table) block.dofs
  pub pairs : Holds pattern (lines_in table) block.dofs

abbrev pub HoldsAll : List (List ℕ) → List (Option AffineLine) → List LocalBlock → Type 0
HoldsAll pattern table blocks = All (IsHeld pattern table) blocks
