-- How often cells and faces are visited in a run.
use Rattle.std.specs.Prelude.{◌≡◌, ℕ, ◌+◌, ◌<◌, Bool, true, false, ◌==◌, ◌&&◌, nat_lt, [], length, filter, if◌then◌else◌}
use Rattle.hanging_refine.specs.Refined.{RefinedMesh}
use Rattle.hanging_refine.specs.Grown.{IsGrown}
use Rattle.mesh_visits.specs.declared.flags.Flags.{Flags}
use Rattle.mesh_visits.specs.declared.flags.Interior.{Interior}
use Rattle.mesh_visits.specs.declared.flags.Interior.TheVariants.{None as Never, Once, Both}
use Rattle.mesh_visits.specs.declared.visit.Visit.{Visit}
use Rattle.mesh_visits.specs.declared.visit.Visit.TheVariants.{Cell as OnCell, Boundary as OnBoundary, Interior as OnPart}
use Rattle.mesh_visits.specs.Meeting.{Face, is_face}
use Rattle.mesh_visits.specs.Sharing.{IsFaceOf, IsOuter, IsOtherSide, IsHalfOf, SharePart}
use Rattle.mesh_visits.specs.Runs.{Subdomains, is_own_cell, goes_out, ghost_visits, visits_of}

-- a visit of the cell itself
abbrev pub is_itself : Visit → Bool
is_itself OnCell = true
is_itself (OnBoundary face id) = false
is_itself (OnPart face other other_face here there) = false

-- a visit of this face at the boundary
abbrev pub is_outside : ℕ → Visit → Bool
is_outside face OnCell = false
is_outside face (OnBoundary f id) = f == face
is_outside face (OnPart f other other_face here there) = false

-- a visit of this face with that one on the other side
abbrev pub goes_to : Face → Face → Visit → Bool
goes_to here there OnCell = false
goes_to here there (OnBoundary f id) = false
goes_to here there (OnPart f other other_face mine theirs) = f == here.1 && is_face (other, other_face) there

abbrev pub count : (Visit → Bool) → Subdomains → Flags → RefinedMesh → ℕ → ℕ
count test subdomain flags forest cell = length (filter test (visits_of subdomain flags forest cell))

abbrev pub once_if : Bool → ℕ
once_if wanted = if wanted then 1 else 0

-- how often the part between two faces is visited from the first
abbrev pub count_to : Subdomains → Flags → RefinedMesh → Face → Face → ℕ
count_to subdomain flags forest here there = count (goes_to here there) subdomain flags forest here.0

-- how often the part is visited from its two sides
abbrev pub AreVisited : Interior → ℕ → ℕ → Type 0
AreVisited Never here there = (here ≡ 0) × (there ≡ 0)
AreVisited Once here there = here + there ≡ 1
AreVisited Both here there = (here ≡ 1) × (there ≡ 1)

abbrev pub IsOwn : Subdomains → Flags → ℕ → Type 0
IsOwn subdomain flags cell = is_own_cell subdomain flags.own cell ≡ true

abbrev pub IsOther : Subdomains → Flags → ℕ → Type 0
IsOther subdomain flags cell = is_own_cell subdomain flags.own cell ≡ false

-- a cell that isn't own and shares a part of a face with an own one
pub record IsGhost (subdomain : Subdomains) (flags : Flags) (forest : RefinedMesh) (cell : ℕ) : Type 0 where
  pub face : ℕ
  pub there : Face
  pub here_is : IsFaceOf forest (cell, face)
  pub there_is : IsFaceOf forest there
  pub is_other : IsOther subdomain flags cell
  pub is_own : IsOwn subdomain flags there.0
  pub part : SharePart forest (cell, face) there

-- each own cell is visited once and each of its faces at the boundary once, where they are wanted, and no other face
-- as one at the boundary; no visit goes from a face to one with which it shares no part
pub record OwnCells (subdomain : Subdomains) (flags : Flags) (forest : RefinedMesh) : Type 0 where
  pub itself : (cell : ℕ) → IsOwn subdomain flags cell → count is_itself subdomain flags forest cell ≡ once_if flags.cells
  pub boundary : (cell face : ℕ) → face < 4 → IsOwn subdomain flags cell → IsOuter forest (cell, face) → count (is_outside face) subdomain flags forest cell ≡ once_if flags.boundary
  pub inner : (cell face : ℕ) → face < 4 → IsOwn subdomain flags cell → (IsOuter forest (cell, face) → ⊥) → count (is_outside face) subdomain flags forest cell ≡ 0
  pub no_part : (a b : Face) → IsFaceOf forest a → IsFaceOf forest b → (SharePart forest a b → ⊥) → count_to subdomain flags forest a b ≡ 0

-- two faces of own cells, with what says that they share a part
pub record AreOwn (subdomain : Subdomains) (flags : Flags) (forest : RefinedMesh) (a b : Face) : Type 0 where
  pub here : IsFaceOf forest a
  pub there : IsFaceOf forest b
  pub here_is_own : IsOwn subdomain flags a.0
  pub there_is_own : IsOwn subdomain flags b.0

-- a face of an own cell, and one of another cell with which it shares a part
pub record AreOwnAndOther (subdomain : Subdomains) (flags : Flags) (forest : RefinedMesh) (a b : Face) : Type 0 where
  pub here : IsFaceOf forest a
  pub there : IsFaceOf forest b
  pub here_is_own : IsOwn subdomain flags a.0
  pub there_is_other : IsOther subdomain flags b.0
  pub part : SharePart forest a b

-- a part between two own cells is visited never, once, or once from each side; once, it is from the cell of lower
-- number for an equal face, and from the finer cell for a half
pub record OwnParts (subdomain : Subdomains) (flags : Flags) (forest : RefinedMesh) : Type 0 where
  pub each : (a b : Face) → AreOwn subdomain flags forest a b → SharePart forest a b → AreVisited flags.interior (count_to subdomain flags forest a b) (count_to subdomain flags forest b a)
  pub equal_once : (a b : Face) → AreOwn subdomain flags forest a b → flags.interior ≡ Once → IsOtherSide forest a b → count_to subdomain flags forest a b ≡ once_if (nat_lt a.0 b.0)
  pub half_once : (half : ℕ) (a b : Face) → half < 2 → AreOwn subdomain flags forest a b → flags.interior ≡ Once → IsHalfOf forest half a b →
      (count_to subdomain flags forest a b ≡ 1) × (count_to subdomain flags forest b a ≡ 0)

-- a part between an own cell and another one is visited from the own cell as the flag for such parts says, and never
-- from the other one; a ghost has its own visit at most, and a cell that is no ghost either has none
pub record OtherCells (subdomain : Subdomains) (flags : Flags) (forest : RefinedMesh) : Type 0 where
  pub parts : (a b : Face) → AreOwnAndOther subdomain flags forest a b →
      (count_to subdomain flags forest a b ≡ once_if (goes_out flags.ghost_parts flags.own (subdomain b.0))) × (count_to subdomain flags forest b a ≡ 0)
  pub ghosts : (cell : ℕ) → IsGhost subdomain flags forest cell → visits_of subdomain flags forest cell ≡ ghost_visits flags
  pub no_ghosts : (cell : ℕ) → cell < length forest.cells → IsOther subdomain flags cell → (IsGhost subdomain flags forest cell → ⊥) → visits_of subdomain flags forest cell ≡ []

pub record VisitsAreExact (subdomain : Subdomains) (flags : Flags) (forest : RefinedMesh) : Type 0 where
  pub own : OwnCells subdomain flags forest
  pub parts : OwnParts subdomain flags forest
  pub others : OtherCells subdomain flags forest

abbrev pub AllVisitsAreExact : Type 0
AllVisitsAreExact = (subdomain : Subdomains) (flags : Flags) (forest : RefinedMesh) → IsGrown forest → VisitsAreExact subdomain flags forest
