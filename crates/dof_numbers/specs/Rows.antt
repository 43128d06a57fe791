-- The dofs of cells as they are stored.
use Rattle.std.specs.Prelude.{ℕ, List}
use Rattle.dof_numbers.specs.declared.dofs.Rows.{Rows}
use Rattle.dof_numbers.specs.declared.dofs.Rows.TheVariants.{Four, Nine}

abbrev pub degree_of : Rows → ℕ
degree_of (Four rows) = 1
degree_of (Nine rows) = 2

abbrev pub rows_of : Rows → List (List ℕ)
rows_of (Four rows) = rows.items
rows_of (Nine rows) = rows.items
