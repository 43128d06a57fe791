-- What one point of the quadrature knows of a cell, and what it adds to the form.
use Rattle.std.specs.Prelude.{ℕ, ◌+◌, ◌*◌, ◌^◌, ◌≤◌, ◌<◌, ◌≡◌, List, [], ◌++◌, map, slice_index_or, ℤ, pos, ◌<ℤ◌, ◌-ℤ◌, ◌*ℤ◌, unsigned_abs}
use Rattle.fem_fixed.specs.declared.mesh.Point.{Point}
use Rattle.fem_fixed.specs.Rounding.{nearest}
use Rattle.fixed_q1.specs.declared.geometry.Vector.{Vector}
use Rattle.fixed_q1.specs.declared.geometry.Jacobian.{Jacobian}
use Rattle.fixed_q1.specs.Geometry.{HasSmallSlopes, vector, jacobian_at, transformed}
use Rattle.fixed_q1.specs.CellForm.{determinant_at, dot, total}
use Rattle.fixed_q1.specs.Evaluation.{vector_at, number_at}
use Rattle.fixed_q2.specs.declared.sample.Sample.{Sample}
use Rattle.fixed_q2.specs.declared.flux.Flux.{Flux}
use Rattle.fixed_q2.specs.declared.flux.ScaledSource.{ScaledSource}
use Rattle.fixed_q2.specs.declared.jump.Slopes.{Slopes}
use Rattle.fixed_q2.specs.declared.shapes.Shape.{Shape}
use Rattle.fixed_q2.specs.Biquadratic.{shapes, shape_numbers, shape_in}
use Rattle.fixed_q2.specs.CellForm.{WeightedPoint, gauss_points, parts}
use Rattle.fixed_q1.specs.JumpForm.{jump_entry}
use Rattle.fixed_q2.specs.JumpForm.{part_numbers}

-- the gradients of the shape functions on the cell, times the determinant
abbrev pub gradients_of : Jacobian → List Shape → List Vector
gradients_of j list = map (λ i. transformed j (shape_in list i).gradient) shape_numbers

abbrev pub values_of : List Shape → List ℤ
values_of list = map (λ i. (shape_in list i).value) shape_numbers

-- what is kept of a weighted point
abbrev pub sample_at : List Point → WeightedPoint → Sample
sample_at vertices p =
    record {
      weight = p.weight;
      jacobian = jacobian_at vertices p.place;
      determinant = determinant_at vertices p.place;
      values = values_of (shapes p.place);
      gradients = gradients_of (jacobian_at vertices p.place) (shapes p.place);
    }

abbrev pub samples_of : List Point → List Sample
samples_of vertices = map (sample_at vertices) gauss_points

-- what a kept point adds to the entry (i, j) of the matrix, and to the entry i of the load
unfoldable pub kept_diffusion : ℤ → ℕ → ℕ → Sample → ℤ
kept_diffusion diffusion i j s =
    parts s.weight (nearest (diffusion *ℤ dot (vector_at s.gradients i) (vector_at s.gradients j)) (pos 65536 *ℤ s.determinant))

unfoldable pub kept_source : ℤ → ℕ → Sample → ℤ
kept_source source i s = parts s.weight (nearest (source *ℤ number_at s.values i *ℤ s.determinant) (pos (2 ^ 48)))

-- the matrix and the load of the kept points
unfoldable pub kept_entry : List Sample → ℤ → ℕ → ℕ → ℤ
kept_entry samples diffusion i j = total (map (kept_diffusion diffusion i j) samples)

abbrev pub kept_row : List Sample → ℤ → ℕ → List ℤ
kept_row samples diffusion i = map (kept_entry samples diffusion i) shape_numbers

abbrev pub kept_matrix : List Sample → ℤ → List (List ℤ)
kept_matrix samples diffusion = map (kept_row samples diffusion) shape_numbers

abbrev pub kept_load : List Sample → ℤ → List ℤ
kept_load samples source = map (λ i. total (map (kept_source source i) samples)) shape_numbers

abbrev pub IsSmallGradient : Vector → Type 0
IsSmallGradient g = (unsigned_abs g.x ≤ 2 ^ 47) × (unsigned_abs g.y ≤ 2 ^ 47)

-- a gradient whose factors are at most 2 ^ 18 in size
abbrev pub IsOnCell : Jacobian → Vector → Type 0
IsOnCell j g = (unsigned_abs g.x ≤ (unsigned_abs j.yy + unsigned_abs j.yx) * 2 ^ 18) × (unsigned_abs g.y ≤ (unsigned_abs j.xx + unsigned_abs j.xy) * 2 ^ 18)

-- each number is in its range
pub record IsBounded (s : Sample) : Type 0 where
  pub weight : unsigned_abs s.weight ≤ 64
  pub slopes : HasSmallSlopes s.jacobian
  pub determinant : unsigned_abs s.determinant ≤ 2 ^ 57
  pub values : (i : ℕ) → i < 9 → unsigned_abs (number_at s.values i) ≤ 2 ^ 32
  pub gradients : (i : ℕ) → i < 9 → IsSmallGradient (vector_at s.gradients i)
  pub on_cell : (i : ℕ) → i < 9 → IsOnCell s.jacobian (vector_at s.gradients i)

-- and the cell isn't folded over there
pub record IsRegular (s : Sample) : Type 0 where
  pub bounded : IsBounded s
  pub positive : pos 0 <ℤ s.determinant

-- a gradient times the diffusion
abbrev pub flux_along : ℤ → Vector → Vector
flux_along diffusion g = vector (diffusion *ℤ g.x) (diffusion *ℤ g.y)

abbrev pub fluxes_along : ℤ → Sample → List Vector
fluxes_along diffusion s = map (λ i. flux_along diffusion (vector_at s.gradients i)) shape_numbers

abbrev pub IsSmallFlux : Vector → Type 0
IsSmallFlux g = (unsigned_abs g.x ≤ 2 ^ 61) × (unsigned_abs g.y ≤ 2 ^ 61)

-- the fluxes fit 64 bits in any case, and where there is a divisor they and it are those of the point
pub record IsFluxOf (diffusion : ℤ) (s : Sample) (f : Flux) : Type 0 where
  pub small : (i : ℕ) → i < 9 → IsSmallFlux (vector_at f.fluxes i)
  pub divisor : unsigned_abs f.divisor < 2 ^ 62
  pub divides : pos 0 <ℤ f.divisor → f.divisor ≡ pos 65536 *ℤ s.determinant
  pub fluxes : pos 0 <ℤ f.divisor → (i : ℕ) → i < 9 → vector_at f.fluxes i ≡ flux_along diffusion (vector_at s.gradients i)

-- the same of all nine points
abbrev pub AreFluxesOf : ℤ → List Sample → List Flux → Type 0
AreFluxesOf diffusion samples fluxes = (k : ℕ) (s : Sample) (f : Flux) → k < 9 → IsFluxOf diffusion (slice_index_or samples k s) (slice_index_or fluxes k f)

-- the source times the determinant
abbrev pub IsScaledSourceOf : ℤ → Sample → ScaledSource → Type 0
IsScaledSourceOf source s h = h.product ≡ source *ℤ s.determinant

abbrev pub AreScaledSourcesOf : ℤ → List Sample → List ScaledSource → Type 0
AreScaledSourcesOf source samples scaled_sources = (k : ℕ) (s : Sample) (h : ScaledSource) → k < 9 → IsScaledSourceOf source (slice_index_or samples k s) (slice_index_or scaled_sources k h)

-- the rows before i stand
abbrev pub AreRowsOf : List Sample → ℤ → ℕ → List (List ℤ) → Type 0
AreRowsOf samples diffusion i matrix = (r : ℕ) → r < i → slice_index_or matrix r [] ≡ kept_row samples diffusion r

-- the bound of what a point adds
abbrev pub IsPart : ℤ → Type 0
IsPart n = unsigned_abs n ≤ 2 ^ 118

-- what a place of a side of a face knows of its cell
abbrev pub slopes_at : List Point → Vector → Slopes
slopes_at vertices p =
    record { determinant = determinant_at vertices p; gradients = gradients_of (jacobian_at vertices p) (shapes p) }

pub record AreBounded (s : Slopes) : Type 0 where
  pub determinant : unsigned_abs s.determinant ≤ 2 ^ 57
  pub gradients : (i : ℕ) → i < 9 → IsSmallGradient (vector_at s.gradients i)

pub record AreRegular (s : Slopes) : Type 0 where
  pub bounded : AreBounded s
  pub positive : pos 0 <ℤ s.determinant

-- the slope of the shape function i along a vector, from a kept place
unfoldable pub kept_slope : Vector → ℕ → Slopes → ℤ
kept_slope n i s = nearest (dot n (vector_at s.gradients i)) s.determinant

-- the jumps between two kept places
abbrev pub kept_factors : Vector → Slopes → Slopes → List ℤ
kept_factors n here there = map (λ i. kept_slope n i here) shape_numbers ++ map (λ i. pos 0 -ℤ kept_slope n i there) shape_numbers

-- each jump is within the limit
abbrev pub AreSmallFactors : List ℤ → Type 0
AreSmallFactors factors = (i : ℕ) → i < 18 → unsigned_abs (number_at factors i) ≤ 2 ^ 40

-- the rows of a matrix of a part before i stand
abbrev pub penalty_row : ℤ → List ℤ → ℕ → List ℤ
penalty_row gamma factors i = map (jump_entry gamma factors i) part_numbers

abbrev pub ArePenaltyRows : ℤ → List ℤ → ℕ → List (List ℤ) → Type 0
ArePenaltyRows gamma factors i matrix = (r : ℕ) → r < i → slice_index_or matrix r [] ≡ penalty_row gamma factors r
