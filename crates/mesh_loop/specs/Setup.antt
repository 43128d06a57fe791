-- What a set-up is made of, and what comes of it: visits, the pattern, and the rows that a cell writes.
use Rattle.std.specs.Prelude.{◌≡◌, ℕ, ◌<◌, List, ◌++◌, All, filter, length, map}
use Rattle.std.specs.List.{flat_map, range_with_len}
use Rattle.std.specs.declared.option.Option.{Option}
use Rattle.affine_constraints.specs.declared.term.Term.{Term}
use Rattle.affine_constraints.specs.Lines.{AffineLine, Lines, lines_in}
use Rattle.block_sums.specs.Masters.{masters, Holds}
use Rattle.cell_blocks.specs.Blocks.{Given, visit_dofs, visits_in}
use Rattle.dof_numbers.specs.Dofs.{IsNumberingOf}
use Rattle.mesh_visits.specs.declared.flags.Flags.{Flags}
use Rattle.mesh_visits.specs.declared.visit.Visit.{Visit}
use Rattle.sparsity.specs.Coupled.{CoupledDofs, has, rows_of}

-- a refined mesh with its dofs and the coefficients of a problem, the closed line, if any, of each dof, and
-- which workers run
pub record MeshProblem : Type 0 where
  pub given : Given
  pub closed : List (Option AffineLine)
  pub flags : Flags

-- the dofs are those of the mesh, and the closed lines are for them
pub record IsMatched (s : MeshProblem) : Type 0 where
  pub numbered : IsNumberingOf s.given.forest s.given.dofs
  pub lines : length s.closed ≡ s.given.dofs.size

abbrev pub cells_of : MeshProblem → List ℕ
cells_of s = range_with_len 0 (length s.given.forest.cells)

abbrev pub cell_visits : MeshProblem → ℕ → List Visit
cell_visits s cell = visits_in s.flags s.given cell

-- the dofs of all masters of these dofs
unfoldable pub masters_of : Lines → List ℕ → List ℕ
masters_of lines dofs = map (λ (term : Term). term.dof) (flat_map (masters lines) dofs)

-- the dofs that a visit of a cell couples: all masters of its dofs
abbrev pub visit_masters : MeshProblem → ℕ → Visit → List ℕ
visit_masters s cell visit = masters_of (lines_in s.closed) (visit_dofs s.given cell visit)

-- the lists of dofs that the visits of a cell couple
unfoldable pub coupled_by : MeshProblem → ℕ → List (List ℕ)
coupled_by s cell = map (visit_masters s cell) (cell_visits s cell)

-- those of all cells
unfoldable pub coupled_dofs : MeshProblem → CoupledDofs
coupled_dofs s = record { size = s.given.dofs.size; lists = flat_map (coupled_by s) (cells_of s) }

-- the pattern: each dof with itself, and all pairs of masters of the dofs of a visit
unfoldable pub pattern_of : MeshProblem → List (List ℕ)
pattern_of s = rows_of (coupled_dofs s)

-- the rows that a visit of a cell writes: its dofs and their masters
abbrev pub visit_rows : MeshProblem → ℕ → Visit → List ℕ
visit_rows s cell visit = visit_dofs s.given cell visit ++ visit_masters s cell visit

-- the rows that the visits of a cell write, rising, each once
unfoldable pub written_rows : MeshProblem → ℕ → List ℕ
written_rows s cell = filter (has (flat_map (visit_rows s cell) (cell_visits s cell))) (range_with_len 0 s.given.dofs.size)

-- the pattern has all that a visit of a cell couples
abbrev pub HoldsVisit : MeshProblem → ℕ → Visit → Type 0
HoldsVisit s cell visit = Holds (pattern_of s) (lines_in s.closed) (visit_dofs s.given cell visit)
