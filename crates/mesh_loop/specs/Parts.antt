-- What a set-up keeps, and what it is made from.
use Rattle.std.specs.Prelude.{◌≡◌, ℕ, ◌<◌, List, All, length, map, IfOk}
use Rattle.affine_constraints.specs.Lines.{lines_in}
use Rattle.cell_blocks.specs.Blocks.{visit_dofs, block_of}
use Rattle.cell_blocks.specs.Views.{given}
use Rattle.cell_blocks.specs.LocalBlocks.{IsBlock}
use Rattle.mesh_visits.specs.declared.visit.Visit.{Visit}
use Rattle.mesh_visits.specs.Within.{IsFit}
use Rattle.mesh_loop.specs.declared.source.Source.{Source}
use Rattle.mesh_loop.specs.declared.gather.Parts.{Parts}
use Rattle.mesh_loop.specs.Setup.{MeshProblem, IsMatched, cells_of, cell_visits, visit_masters, written_rows, pattern_of}

-- what a source shows
abbrev pub shown : Source → MeshProblem
shown source = record { given = given source.setting; closed = source.closed.now; flags = source.flags }

-- the dofs of a visit, of which there is one at least, and all their masters are below the number of dofs,
-- and the block of the visit is within its limits
pub record IsVisitBelow (s : MeshProblem) (cell : ℕ) (visit : Visit) : Type 0 where
  pub dofs : All (λ dof. dof < s.given.dofs.size) (visit_dofs s.given cell visit)
  pub masters : All (λ dof. dof < s.given.dofs.size) (visit_masters s cell visit)
  pub some : 0 < length (visit_dofs s.given cell visit)
  pub block : IfOk (block_of s.given cell visit) IsBlock

-- the visits of a cell: at most nine, each within the mesh, with dofs that are there
pub record IsCellFit (s : MeshProblem) (cell : ℕ) : Type 0 where
  pub fit : IsFit s.given.forest 9 4 8 (cell_visits s cell)
  pub below : All (IsVisitBelow s cell) (cell_visits s cell)

-- the visits, the written rows and the pattern of the problem
pub record ArePartsOf (s : MeshProblem) (parts : Parts) : Type 0 where
  pub matched : IsMatched s
  pub visits : parts.visits ≡ map (cell_visits s) (cells_of s)
  pub rows : parts.rows ≡ map (written_rows s) (cells_of s)
  pub pattern : parts.pattern ≡ pattern_of s
  pub cells : (cell : ℕ) → cell < length s.given.forest.cells → IsCellFit s cell
