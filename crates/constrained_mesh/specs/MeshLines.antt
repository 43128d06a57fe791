-- The lines of a mesh: those of boundary values, and those of hanging dofs.
use Rattle.std.specs.Prelude.{◌≡◌, ℕ, ◌<◌, List, length, Some, None}
use Rattle.std.specs.declared.option.Option.{Option}
use Rattle.fem_fixed.specs.Lists.{different}
use Rattle.hanging_refine.specs.Refined.{RefinedMesh}
use Rattle.affine_constraints.specs.Lines.{AffineLine, lines_in}
use Rattle.dof_numbers.specs.Dofs.{same_name, name_list}
use Rattle.dof_numbers.specs.Hanging.{IsHanging, hung_line}
use Rattle.problem_read.specs.Entries.{ProblemParts}
use Rattle.constrained_mesh.specs.Dirichlet.{dirichlet_line}

-- a place for each dof, with its line, if any
abbrev pub Table : Type 0
Table = List (Option AffineLine)

-- how many dofs a refined mesh has: one for each name
abbrev pub dof_count : ℕ → RefinedMesh → ℕ
dof_count degree forest = different same_name (name_list degree forest)

-- the dof hangs at no face
abbrev pub HangsNowhere : ℕ → RefinedMesh → ℕ → Type 0
HangsNowhere degree forest dof = (c f h : ℕ) → IsHanging degree forest dof c f h → ⊥

-- no hanging dof has a Dirichlet line
abbrev pub HangingHaveNone : ℕ → RefinedMesh → ProblemParts → Type 0
HangingHaveNone degree forest problem = (dof c f h : ℕ) → IsHanging degree forest dof c f h → dirichlet_line degree forest problem dof ≡ None

-- a hanging dof has the line of its place at its face, and every other dof has its Dirichlet line, if any
pub record AreMeshLines (degree : ℕ) (forest : RefinedMesh) (problem : ProblemParts) (table : Table) : Type 0 where
  pub size : length table ≡ dof_count degree forest
  pub hanging : (dof c f h : ℕ) → IsHanging degree forest dof c f h → lines_in table dof ≡ Some (hung_line degree forest c f h)
  pub others : (dof : ℕ) → dof < dof_count degree forest → HangsNowhere degree forest dof → lines_in table dof ≡ dirichlet_line degree forest problem dof
