-- The faults of sums as endings of a run: a refusal, or want of memory.
use Rattle.fixed_q1.specs.declared.fault.LocalFault.{LocalFault}
use Rattle.fixed_q1.specs.declared.fault.LocalFault.TheVariants as locals
use Rattle.serial_sum.specs.declared.sum.AssembleFault.{AssembleFault}
use Rattle.serial_sum.specs.declared.sum.AssembleFault.TheVariants as sums
use Rattle.diagnostics.specs.declared.kinds.LocalKind.{LocalKind}
use Rattle.diagnostics.specs.declared.kinds.LocalKind.TheVariants as kinds
use Rattle.diagnostics.specs.declared.refusal.Refusal.TheVariants.{Local, Sum}
use Rattle.diagnostics.specs.declared.ending.Ending.{Ending}
use Rattle.diagnostics.specs.declared.ending.Ending.TheVariants.{Refused, NoMemory}

abbrev pub of_local : LocalFault → LocalKind
of_local locals.Distorted = kinds.Distorted
of_local locals.Size = kinds.Size

abbrev pub of_sum : AssembleFault → Ending
of_sum (sums.Local cell fault) = Refused (Local cell (of_local fault))
of_sum (sums.Sum cell row) = Refused (Sum cell row)
of_sum sums.NoMemory = NoMemory
