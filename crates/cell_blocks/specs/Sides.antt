-- Where a part of an interior face lies.
use Rattle.std.specs.Prelude.{All}
use Rattle.fem_fixed.specs.Mesh.{IsWithinReach}
use Rattle.fixed_q1.specs.Geometry.{IsInside}
use Rattle.cell_blocks.specs.declared.sides.PartPlace.{PartPlace}

-- the points are within reach, and the midpoints in the unit square
pub record IsWithinPart (place : PartPlace) : Type 0 where
  pub here : All IsWithinReach place.here
  pub here_x : IsInside place.here_at.0
  pub here_y : IsInside place.here_at.1
  pub there : All IsWithinReach place.there
  pub there_x : IsInside place.there_at.0
  pub there_y : IsInside place.there_at.1
  pub ends : All IsWithinReach place.ends
