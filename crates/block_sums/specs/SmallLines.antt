-- Constraint lines within their limits.
use Rattle.std.specs.Prelude.{ℕ, ◌≤◌, ◌^◌, All, IfSome, unsigned_abs}
use Rattle.affine_constraints.specs.declared.term.Term.{Term}
use Rattle.affine_constraints.specs.Lines.{AffineLine, Lines}

-- a weight in ticks is at most 16 in size
abbrev pub IsWeight : Term → Type 0
IsWeight term = unsigned_abs term.weight ≤ 2 ^ 20

-- each weight is at most 16 in size, and the constant at most 32768
pub record IsSmallLine (line : AffineLine) : Type 0 where
  pub weights : All IsWeight line.terms
  pub constant : unsigned_abs line.constant ≤ 2 ^ 31

abbrev pub AreSmallLines : Lines → Type 0
AreSmallLines lines = (dof : ℕ) → IfSome (lines dof) IsSmallLine
