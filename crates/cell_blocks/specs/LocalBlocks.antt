-- Blocks: the dofs of a visit, and the local form over them.
use Rattle.std.specs.Prelude.{◌≡◌, ℕ, ◌≤◌, ◌^◌, List, length, All, ℤ, unsigned_abs}
use Rattle.fixed_q1.specs.LocalForm.{LocalForm}

-- what one visit of a cell gives; a dof may stand twice
pub record LocalBlock : Type 0 where
  pub dofs : List ℕ
  pub form : LocalForm

abbrev pub IsSmallEntry : ℤ → Type 0
IsSmallEntry entry = unsigned_abs entry ≤ 2 ^ 72

-- at most eighteen dofs, a row and a column of the matrix for each, and numbers within 2 ^ 72 in size
pub record IsBlock (block : LocalBlock) : Type 0 where
  pub few : length block.dofs ≤ 18
  pub rows : length block.form.matrix ≡ length block.dofs
  pub columns : All (λ row. length row ≡ length block.dofs) block.form.matrix
  pub load : length block.form.load ≡ length block.dofs
  pub small : All (All IsSmallEntry) block.form.matrix
  pub small_load : All IsSmallEntry block.form.load
