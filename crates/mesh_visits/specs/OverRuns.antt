-- What the runs of all subdomains visit together.
use Rattle.std.specs.Prelude.{◌≡◌, ℕ, ◌+◌, ◌<◌, false, ◌==◌, List, [], ◌∷◌, length, filter, Some, None}
use Rattle.std.specs.List.{range_with_len}
use Rattle.fixed_q1.specs.declared.places.Part.TheVariants.{Whole}
use Rattle.hanging_refine.specs.Refined.{RefinedMesh}
use Rattle.hanging_refine.specs.Grown.{IsGrown}
use Rattle.mesh_visits.specs.declared.flags.Flags.{Flags}
use Rattle.mesh_visits.specs.declared.flags.Interior.TheVariants.{Once}
use Rattle.mesh_visits.specs.declared.visit.Visit.{Visit}
use Rattle.mesh_visits.specs.Meeting.{Face}
use Rattle.mesh_visits.specs.Visits.{part_visit}
use Rattle.mesh_visits.specs.SideVisits.{half_part}
use Rattle.mesh_visits.specs.Sharing.{IsFaceOf, IsOtherSide, IsHalfOf, SharePart}
use Rattle.mesh_visits.specs.Laws.{AreVisited, count_to}
use Rattle.mesh_visits.specs.Runs.{Subdomains, visits_of}

-- the same flags for the run of this subdomain
abbrev pub for_subdomain : Flags → ℕ → Flags
for_subdomain flags named = record flags { own = Some named }

-- the same flags for a run over all cells
abbrev pub for_all : Flags → Flags
for_all flags = record flags { own = None }

abbrev pub total : (ℕ → ℕ) → List ℕ → ℕ
total count [] = 0
total count (n ∷ rest) = count n + total count rest

-- how often the part between two faces is visited from the first, over the runs of these subdomains
abbrev pub over_runs : Subdomains → Flags → RefinedMesh → List ℕ → Face → Face → ℕ
over_runs subdomain flags forest runs here there = total (λ named. count_to subdomain (for_subdomain flags named) forest here there) runs

-- the list has the subdomain of each cell once
abbrev pub HasEach : Subdomains → ℕ → List ℕ → Type 0
HasEach subdomain cells runs = (cell : ℕ) → cell < cells → length (filter (λ named. named == subdomain cell) runs) ≡ 1

-- over the runs of all subdomains that have a cell, with one rule for all parts, each part of an interior face is
-- visited never, once, or once from each side
abbrev pub RunsAddUp : Type 0
RunsAddUp =
    (subdomain : Subdomains) (flags : Flags) (forest : RefinedMesh) (runs : List ℕ) → IsGrown forest → HasEach subdomain (length forest.cells) runs →
    flags.ghost_parts ≡ flags.interior → (a b : Face) → IsFaceOf forest a → IsFaceOf forest b → SharePart forest a b →
    AreVisited flags.interior (over_runs subdomain flags forest runs a b) (over_runs subdomain flags forest runs b a)

-- what a visit of a cell adds: say, how often a contribution is among those of its block
abbrev pub Weights : Type 0
Weights = ℕ → Visit → ℕ

abbrev pub weigh : (Visit → ℕ) → List Visit → ℕ
weigh weight [] = 0
weigh weight (v ∷ vs) = weight v + weigh weight vs

-- over all cells
abbrev pub sum_over : Weights → (ℕ → List Visit) → RefinedMesh → ℕ
sum_over weight visits forest = total (λ cell. weigh (weight cell) (visits cell)) (range_with_len 0 (length forest.cells))

-- a part adds the same from each of its sides
pub record IsTwoSided (weight : Weights) (forest : RefinedMesh) : Type 0 where
  pub edge : (a b : Face) → IsFaceOf forest a → IsFaceOf forest b → IsOtherSide forest a b →
      weight a.0 (part_visit a.1 Whole Whole b) ≡ weight b.0 (part_visit b.1 Whole Whole a)
  pub half : (half : ℕ) (a b : Face) → half < 2 → IsFaceOf forest a → IsFaceOf forest b → IsHalfOf forest half a b →
      weight a.0 (part_visit a.1 Whole (half_part half) b) ≡ weight b.0 (part_visit b.1 (half_part half) Whole a)

-- under `Once` for all parts and without ghosts, the runs of all subdomains add together what the one run over all
-- cells adds
abbrev pub SumsAddUp : Type 0
SumsAddUp =
    (weight : Weights) (subdomain : Subdomains) (flags : Flags) (forest : RefinedMesh) (runs : List ℕ) → IsGrown forest → HasEach subdomain (length forest.cells) runs →
    flags.interior ≡ Once → flags.ghost_parts ≡ Once → flags.ghost_cells ≡ false → IsTwoSided weight forest →
    total (λ named. sum_over weight (visits_of subdomain (for_subdomain flags named) forest) forest) runs ≡ sum_over weight (visits_of subdomain (for_all flags) forest) forest
