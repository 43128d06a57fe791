-- Laws of refined meshes.
use Rattle.std.specs.Prelude.{◌≡◌, ℕ, ◌<◌, length}
use Rattle.hanging_refine.specs.declared.sides.ActiveSide.{ActiveSide}
use Rattle.hanging_refine.specs.declared.sides.ActiveSide.TheVariants.{Boundary, Equal, Coarser, Finer}
use Rattle.hanging_refine.specs.Refined.{RefinedMesh}
use Rattle.hanging_refine.specs.Sides.{IsSideOf, MeetsOnly}
use Rattle.hanging_refine.specs.Grown.{IsGrown}

-- what a side says of a face is so, and the face meets those that the side names and no other
pub record IsCoveredBy (forest : RefinedMesh) (cell face : ℕ) (side : ActiveSide) : Type 0 where
  pub says : IsSideOf forest cell face side
  pub only : MeetsOnly forest cell face side

-- a side with two smaller cells has two numbers of cells and of faces
abbrev pub HasBoth : ActiveSide → Type 0
HasBoth (Boundary id) = Unit {0}
HasBoth (Equal other g) = Unit {0}
HasBoth (Coarser other g half) = Unit {0}
HasBoth (Finer others gs) = (length others ≡ 2) × (length gs ≡ 2)

-- a face is covered in one way, and in no other
pub record IsCoveredOnce (forest : RefinedMesh) (cell face : ℕ) : Type 0 where
  pub side : ActiveSide
  pub both : HasBoth side
  pub covered : IsCoveredBy forest cell face side
  pub once : (other : ActiveSide) → HasBoth other → IsCoveredBy forest cell face other → other ≡ side

-- each face of an active cell is on the boundary and meets none, or it meets just one, which is equal to it or
-- of which it is a half, or it meets just two, which are its halves; and it is so in one way only
abbrev pub AreCoveredOnce : RefinedMesh → Type 0
AreCoveredOnce forest = (cell face : ℕ) → cell < length forest.cells → face < 4 → IsCoveredOnce forest cell face

abbrev pub FacesAreCoveredOnce : Type 0
FacesAreCoveredOnce = (forest : RefinedMesh) → IsGrown forest → AreCoveredOnce forest
