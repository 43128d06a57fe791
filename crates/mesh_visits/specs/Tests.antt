-- What the tests on faces say, by the names of corners.
use Rattle.std.specs.Prelude.{◌≡◌, ◌↔◌, ℕ, true}
use Rattle.hanging_refine.specs.Refined.{RefinedMesh}
use Rattle.mesh_visits.specs.Meeting.{Face, is_equal, is_half, is_outer}
use Rattle.mesh_visits.specs.Sharing.{IsOuter, IsOtherSide, IsHalfOf}

-- each test passes exactly where what it tests holds
pub record TestsAreExact (forest : RefinedMesh) : Type 0 where
  pub equal : (a b : Face) → (is_equal forest a b ≡ true) ↔ IsOtherSide forest a b
  pub half : (half : ℕ) (small large : Face) → (is_half forest half small large ≡ true) ↔ IsHalfOf forest half small large
  pub outer : (face : Face) → (is_outer forest face ≡ true) ↔ IsOuter forest face

abbrev pub AllTestsAreExact : Type 0
AllTestsAreExact = (forest : RefinedMesh) → TestsAreExact forest
