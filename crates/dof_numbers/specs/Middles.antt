-- Which corner is the middle of a face.
use Rattle.std.specs.Prelude.{◌≡◌, ℕ, ◌<◌, length}
use Rattle.corner_names.specs.Names.{Name}
use Rattle.hanging_refine.specs.Refined.{RefinedMesh}
use Rattle.hanging_refine.specs.Numbered.{corner_name, corner_number}

-- n is the number of a vertex of an active cell with this name
pub record IsVertexNumber (forest : RefinedMesh) (x : Name) (n : ℕ) : Type 0 where
  pub cell : ℕ
  pub v : ℕ
  pub within : cell < length forest.cells
  pub is_vertex : v < 4
  pub name : corner_name forest cell v ≡ x
  pub number : corner_number forest cell v ≡ n

-- no active cell has a vertex with this name
abbrev pub IsNoVertex : RefinedMesh → Name → Type 0
IsNoVertex forest x = (c v : ℕ) → c < length forest.cells → v < 4 → corner_name forest c v ≡ x → ⊥
