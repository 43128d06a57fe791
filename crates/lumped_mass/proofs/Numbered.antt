-- What a numbering of degree 1 says of each cell.
use Rattle.std.proofs.Common.{◌≡◌, ◌∙◌, ap, subst, sym, ℕ, ◌<◌, length}
use Rattle.hanging_refine.specs.Refined.{RefinedMesh}
use Rattle.dof_numbers.specs.Dofs.{Numbering, names_each, IsNumberingOf, AreDofsOfCorners}
use Rattle.lumped_mass.specs.Rows.{HaveFourEach}

pub four_each : (forest : RefinedMesh) (dofs : Numbering) → dofs.degree ≡ 1 → IsNumberingOf forest dofs → AreDofsOfCorners forest dofs → HaveFourEach (length forest.cells) dofs
four_each forest dofs degree numbered corners = record {
  as_many = numbered.count;
  four = λ k d h. numbered.each k d h ∙ ap names_each degree;
  below = λ cell v h low. corners.below cell v h (let P : ℕ → Type 0 = λ n. v < names_each n in subst P (sym degree) low);
}
