-- The degree of the shape functions, as a number.
use Rattle.std.specs.Prelude.{ℕ}
use Rattle.system_setup.specs.declared.scheme.Degree.{Degree}
use Rattle.system_setup.specs.declared.scheme.Degree.TheVariants.{One, Two}

abbrev pub number_of : Degree → ℕ
number_of One = 1
number_of Two = 2
