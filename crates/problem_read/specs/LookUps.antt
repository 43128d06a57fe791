-- What is looked up in a problem.
use Rattle.std.specs.Prelude.{ℕ, ℤ, pos}
use Rattle.std.specs.declared.option.Option.{Option}
use Rattle.std.specs.Option.{unwrap_or}
use Rattle.problem_read.specs.Entries.{ProblemParts}
use Rattle.problem_read.specs.EntryLine.{listed}

-- the diffusion on a material, in ticks; one where no line has it
abbrev pub diffusion_on : ProblemParts → ℕ → ℤ
diffusion_on parts material = unwrap_or (listed parts.diffusion material) (pos 65536)

-- the source on a material, in ticks; 0 where no line has it
abbrev pub source_on : ProblemParts → ℕ → ℤ
source_on parts material = unwrap_or (listed parts.source material) (pos 0)

-- alpha and the data on a boundary id, in ticks, where a line has it
abbrev pub robin_on : ProblemParts → ℕ → Option (ℤ × ℤ)
robin_on parts id = listed parts.robin id

-- the value on a boundary id, in ticks, where a line has it
abbrev pub dirichlet_on : ProblemParts → ℕ → Option ℤ
dirichlet_on parts id = listed parts.dirichlet id

-- the weight of the jump term, in ticks; 0 where no line has it
abbrev pub penalty_in : ProblemParts → ℤ
penalty_in parts = unwrap_or parts.penalty (pos 0)

-- the subdomain that a material belongs to; 0 where no line has it
abbrev pub subdomain_on : ProblemParts → ℕ → ℕ
subdomain_on parts material = unwrap_or (listed parts.subdomain material) 0
