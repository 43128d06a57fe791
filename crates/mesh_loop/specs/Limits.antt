-- The limits within which a set-up is.
use Rattle.std.specs.Prelude.{◌≡◌, ℕ, ◌<◌, ◌≤◌, ◌^◌, All, length}
use Rattle.affine_constraints.specs.Closing.{AreClosedForms}
use Rattle.cell_blocks.specs.Blocks.{cell_blocks}
use Rattle.cell_blocks.specs.Visited.{blocks_in}
use Rattle.cell_blocks.specs.LocalBlocks.{IsBlock}
use Rattle.mesh_loop.specs.Setup.{MeshProblem, cell_visits}

-- the closed lines are for the dofs and within their limits, there are at most 2 ^ 20 cells, a cell has at most nine
-- visits, and its blocks are within their limits
pub record IsWithinLimits (s : MeshProblem) : Type 0 where
  pub lines : length s.closed ≡ s.given.dofs.size
  pub forms : AreClosedForms s.closed
  pub cells : length s.given.forest.cells ≤ 2 ^ 20
  pub visits : (cell : ℕ) → cell < length s.given.forest.cells → length (cell_visits s cell) ≤ 9
  pub blocks : (cell : ℕ) → cell < length s.given.forest.cells → All IsBlock (blocks_in (cell_blocks s.flags s.given cell))
