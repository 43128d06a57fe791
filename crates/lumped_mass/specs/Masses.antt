-- The lumped mass matrix of degree 1: its diagonal by the quadrature whose points are the vertices of a cell. A mass is
-- counted in quarters of a square tick, so nothing is rounded.
use Rattle.std.specs.Prelude.{ℕ, ◌==◌, cond, List, [], ◌∷◌, length, map, slice_index, slice_index_or, ℤ, pos, ◌+ℤ◌, ◌*ℤ◌}
use Rattle.std.specs.List.{range_with_len}
use Rattle.fem_fixed.specs.declared.mesh.Point.{Point}
use Rattle.quad_mesh.specs.Geometry.{point_at, cross_product}
use Rattle.hanging_refine.specs.Refined.{RefinedMesh, cell_at}
use Rattle.hanging_refine.specs.Points.{cell_points}
use Rattle.dof_numbers.specs.Dofs.{Numbering}

-- the sum of all numbers of a list
abbrev pub total : List ℤ → ℤ
total [] = pos 0
total (v ∷ vs) = v +ℤ total vs

-- the vertices go round a cell as 0, 1, 3, 2: the one after v, and the one before it
abbrev pub ahead : ℕ → ℕ
ahead v = slice_index (1 ∷ 3 ∷ 0 ∷ 2 ∷ []) v

abbrev pub behind : ℕ → ℕ
behind v = slice_index (2 ∷ 0 ∷ 3 ∷ 1 ∷ []) v

-- the share of vertex v of a cell with these points: the cross product of the two edges that meet there, which is the
-- Jacobian determinant of the cell's map at v, and four times its weight in the quadrature
abbrev pub share_at : List Point → ℕ → ℤ
share_at points v = cross_product (point_at points v) (point_at points (ahead v)) (point_at points v) (point_at points (behind v))

-- the shares of the vertices 0 to 3
unfoldable pub shares_of : List Point → List ℤ
shares_of points = map (share_at points) (0 ∷ 1 ∷ 2 ∷ 3 ∷ [])

-- those of an active cell, and the dofs of its vertices
abbrev pub cell_shares : RefinedMesh → ℕ → List ℤ
cell_shares forest cell = shares_of (cell_points forest.mesh (cell_at forest cell))

abbrev pub cell_dofs : Numbering → ℕ → List ℕ
cell_dofs dofs cell = slice_index_or dofs.cells cell []

-- the sum of those shares that go to a dof, where vertex v has the dof and the share in place v
unfoldable pub sum_at : List ℕ → List ℤ → ℕ → ℤ
sum_at dofs shares dof = total (map (λ v. cond (slice_index dofs v == dof) (slice_index_or shares v (pos 0)) (pos 0)) (0 ∷ 1 ∷ 2 ∷ 3 ∷ []))

-- what a cell gives to a dof
unfoldable pub cell_mass : RefinedMesh → Numbering → ℕ → ℕ → ℤ
cell_mass forest dofs dof cell = sum_at (cell_dofs dofs cell) (cell_shares forest cell) dof

-- what these cells give to it
unfoldable pub mass_of : RefinedMesh → Numbering → List ℕ → ℕ → ℤ
mass_of forest dofs cells dof = total (map (cell_mass forest dofs dof) cells)

-- four times the lumped mass of each dof, which all cells give to it
unfoldable pub masses : RefinedMesh → Numbering → List ℤ
masses forest dofs = map (mass_of forest dofs (range_with_len 0 (length forest.cells))) (range_with_len 0 dofs.size)

-- the sum of each mass times the value at its dof: four times the integral of the function with these values at the dofs
unfoldable pub integral : List ℤ → List ℤ → ℤ
integral weights values = total (map (λ dof. slice_index_or weights dof (pos 0) *ℤ slice_index_or values dof (pos 0)) (range_with_len 0 (length weights)))
