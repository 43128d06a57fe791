-- The faults of closing among those of the whole.
use Rattle.affine_constraints.specs.declared.fault.CloseFault.{CloseFault}
use Rattle.affine_constraints.specs.declared.fault.CloseFault.TheVariants as close
use Rattle.constrained_mesh.specs.declared.fault.ConstraintFault.{ConstraintFault}
use Rattle.constrained_mesh.specs.declared.fault.ConstraintFault.TheVariants.{Cycle, Weight, Terms, NoMemory}

-- the fault of closing, as one of the whole
abbrev pub fault_of : CloseFault → ConstraintFault
fault_of (close.Cycle dof) = Cycle dof
fault_of (close.Weight dof) = Weight dof
fault_of (close.Terms dof) = Terms dof
fault_of close.NoMemory = NoMemory
