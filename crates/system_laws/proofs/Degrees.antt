-- The degree of a scheme is 1 or 2.
use Rattle.std.proofs.Common.{refl, inl, inr}
use Rattle.dof_numbers.specs.Dofs.{IsDegree}
use Rattle.system_setup.specs.declared.scheme.Degree.{Degree}
use Rattle.system_setup.specs.declared.scheme.Degree.TheVariants.{One, Two}
use Rattle.system_setup.specs.Scheme.{number_of}

pub is_degree : (degree : Degree) → IsDegree (number_of degree)
is_degree One = inl refl
is_degree Two = inr refl
