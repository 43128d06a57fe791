-- The masters of a dof.
use Rattle.std.specs.Prelude.{◌≡◌, ℕ, ◌<◌, true, List, [], ◌∷◌, length, All, ℤ, pos, Some, None}
use Rattle.std.specs.declared.option.Option.{Option}
use Rattle.affine_constraints.specs.declared.term.Term.{Term}
use Rattle.affine_constraints.specs.Lines.{AffineLine, Lines}
use Rattle.serial_sum.specs.Columns.{columns_at, has_column}

-- a dof that is its own master, with weight one
abbrev pub itself : ℕ → Term
itself dof = record { dof = dof; weight = pos 65536 }

abbrev pub masters_by : Option AffineLine → ℕ → List Term
masters_by None dof = itself dof ∷ []
masters_by (Some line) dof = line.terms

-- the masters of a dof: the terms of its closed line, or itself where it is free
unfoldable pub masters : Lines → ℕ → List Term
masters lines dof = masters_by (lines dof) dof

abbrev pub constant_by : Option AffineLine → ℤ
constant_by None = pos 0
constant_by (Some line) = line.constant

-- its constant: that of its closed line, or 0
unfoldable pub constant_of : Lines → ℕ → ℤ
constant_of lines dof = constant_by (lines dof)

-- the pattern has the pair
pub record Couples (pattern : List (List ℕ)) (i j : ℕ) : Type 0 where
  pub within : i < length pattern
  pub held : has_column (columns_at pattern i) j ≡ true

-- the pattern has all pairs of masters of these dofs, and each dof with itself
pub record Holds (pattern : List (List ℕ)) (lines : Lines) (dofs : List ℕ) : Type 0 where
  pub masters : All (λ d. All (λ e. All (λ (m : Term). All (λ (p : Term). Couples pattern m.dof p.dof) (masters lines e)) (masters lines d)) dofs) dofs
  pub own : All (λ d. Couples pattern d d) dofs

-- the pattern has the pairs of this master and each master of these dofs
pub record IsMasterFor (pattern : List (List ℕ)) (lines : Lines) (dofs : List ℕ) (master : Term) : Type 0 where
  pub row : master.dof < length pattern
  pub others : All (λ e. All (λ (p : Term). Couples pattern master.dof p.dof) (masters lines e)) dofs
