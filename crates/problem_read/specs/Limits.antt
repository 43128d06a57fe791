-- What each problem keeps.
use Rattle.std.specs.Prelude.{ℕ, ◌^◌, ◌≤◌, List, ℤ, unsigned_abs, length, All, IfSome}
use Rattle.problem_read.specs.declared.ties.TieTerm.{TieTerm}
use Rattle.problem_read.specs.Entries.{Tie, ProblemParts}

-- at most 2^31 ticks in size
abbrev pub IsSmall : ℤ → Type 0
IsSmall value = unsigned_abs value ≤ 2 ^ 31

abbrev pub IsLight : TieTerm → Type 0
IsLight term = unsigned_abs term.weight ≤ 2 ^ 20

-- at most 16 terms, each of a weight of at most 2^20 ticks, and a small constant
pub record IsTieWithin (terms : List TieTerm) (constant : ℤ) : Type 0 where
  pub few : length terms ≤ 16
  pub light : All IsLight terms
  pub small : IsSmall constant

-- values are small, and there are at most 32 steps and 2^20 constraints
pub record AreWithinLimits (parts : ProblemParts) : Type 0 where
  pub diffusion : All (λ (pair : ℕ × ℤ). IsSmall pair.1) parts.diffusion
  pub source : All (λ (pair : ℕ × ℤ). IsSmall pair.1) parts.source
  pub robin : All (λ (pair : ℕ × (ℤ × ℤ)). IsSmall pair.1.0 × IsSmall pair.1.1) parts.robin
  pub dirichlet : All (λ (pair : ℕ × ℤ). IsSmall pair.1) parts.dirichlet
  pub penalty : IfSome parts.penalty IsSmall
  pub steps : length parts.steps ≤ 32
  pub ties : length parts.ties ≤ 2 ^ 20
  pub each_tie : All (λ (tie : Tie). IsTieWithin tie.terms tie.constant) parts.ties
