-- Refined meshes that are the same up to the numbers of their corners, and set-ups of one system.
use Rattle.std.specs.Prelude.{◌≡◌, ℕ, List, Ok, Err}
use Rattle.std.specs.declared.result.Result.{Result}
use Rattle.mesh_loop.specs.Setup.{MeshProblem, cells_of, pattern_of, written_rows}
use Rattle.mesh_loop.specs.Sum.{parts_of}
use Rattle.hanging_refine.specs.Refined.{RefinedMesh, active_cells}
use Rattle.cell_blocks.specs.Blocks.{cell_blocks}
use Rattle.diagnostics.specs.declared.refusal.Refusal.{Refusal}

-- one coarse mesh, and the same active cells in the same order
pub record IsSameForest (a b : RefinedMesh) : Type 0 where
  pub mesh : a.mesh ≡ b.mesh
  pub cells : active_cells a ≡ active_cells b

-- two set-ups have one system: the same cells, dofs and closed lines, the same pattern, the same blocks and the same part of
-- each cell, in the order of the cells and in each other order, and each cell writes the same rows; only the numbers of
-- corners may differ
pub record IsSameSystem (s t : MeshProblem) : Type 0 where
  pub cells : cells_of s ≡ cells_of t
  pub dofs : s.given.dofs.size ≡ t.given.dofs.size
  pub lines : s.closed ≡ t.closed
  pub pattern : pattern_of s ≡ pattern_of t
  pub blocks : (cell : ℕ) → cell_blocks s.flags s.given cell ≡ cell_blocks t.flags t.given cell
  pub parts : parts_of s (cells_of s) ≡ parts_of t (cells_of t)
  pub in_order : (order : List ℕ) → parts_of s order ≡ parts_of t order
  pub rows : (cell : ℕ) → written_rows s cell ≡ written_rows t cell

-- two outcomes agree: one refusal, or one system
abbrev pub AgreeOn : Result MeshProblem Refusal → Result MeshProblem Refusal → Type 0
AgreeOn (Ok s) (Ok t) = IsSameSystem s t
AgreeOn (Err a) (Err b) = a ≡ b
AgreeOn (Ok s) (Err b) = ⊥
AgreeOn (Err a) (Ok t) = ⊥

-- two outcomes of refinement agree: one refusal, or meshes that are the same
abbrev pub AgreeOnForests : Result RefinedMesh Refusal → Result RefinedMesh Refusal → Type 0
AgreeOnForests (Ok a) (Ok b) = IsSameForest a b
AgreeOnForests (Err r) (Err q) = r ≡ q
AgreeOnForests (Ok a) (Err q) = ⊥
AgreeOnForests (Err r) (Ok b) = ⊥
