-- The faults of the mesh and of the constraints as endings of a run: a refusal, or want of memory.
use Rattle.quad_mesh.specs.declared.fault.MeshFault.{MeshFault}
use Rattle.quad_mesh.specs.declared.fault.MeshFault.TheVariants as coarse
use Rattle.hanging_refine.specs.declared.fault.RefineFault.{RefineFault}
use Rattle.hanging_refine.specs.declared.fault.RefineFault.TheVariants as refining
use Rattle.constrained_mesh.specs.declared.fault.ConstraintFault.{ConstraintFault}
use Rattle.constrained_mesh.specs.declared.fault.ConstraintFault.TheVariants as lines
use Rattle.sparsity.specs.declared.fault.PatternFault.{PatternFault}
use Rattle.sparsity.specs.declared.fault.PatternFault.TheVariants as pattern
use Rattle.diagnostics.specs.declared.kinds.MeshKind.TheVariants as meshes
use Rattle.diagnostics.specs.declared.kinds.ConstraintKind.TheVariants as constraints
use Rattle.diagnostics.specs.declared.kinds.LimitKind.TheVariants.{Level, Cells, Entries}
use Rattle.diagnostics.specs.declared.refusal.Refusal.TheVariants.{Mesh, Constraint, Limit}
use Rattle.diagnostics.specs.declared.ending.Ending.{Ending}
use Rattle.diagnostics.specs.declared.ending.Ending.TheVariants.{Refused, NoMemory}

abbrev pub of_mesh : MeshFault → Ending
of_mesh (coarse.RepeatedCorner cell) = Refused (Mesh meshes.RepeatedCorner cell)
of_mesh (coarse.ZeroArea cell) = Refused (Mesh meshes.ZeroArea cell)
of_mesh (coarse.NotConvex cell) = Refused (Mesh meshes.NotConvex cell)
of_mesh (coarse.EdgeShared cell) = Refused (Mesh meshes.EdgeShared cell)
of_mesh (coarse.LineOffEdge line) = Refused (Mesh meshes.LineOffEdge line)
of_mesh (coarse.BoundaryTwice line) = Refused (Mesh meshes.BoundaryTwice line)
of_mesh coarse.NoMemory = NoMemory

abbrev pub of_refining : RefineFault → Ending
of_refining (refining.NoSuchCell cell) = Refused (Mesh meshes.NoSuchCell cell)
of_refining (refining.Level cell) = Refused (Limit Level)
of_refining refining.Limit = Refused (Limit Cells)
of_refining (refining.Flat cell) = Refused (Mesh meshes.Flat cell)
of_refining refining.NoMemory = NoMemory

abbrev pub of_constraints : ConstraintFault → Ending
of_constraints (lines.UnknownNode id) = Refused (Constraint constraints.UnknownNode id)
of_constraints (lines.Twice dof) = Refused (Constraint constraints.Twice dof)
of_constraints (lines.Cycle dof) = Refused (Constraint constraints.Cycle dof)
of_constraints (lines.Weight dof) = Refused (Constraint constraints.Weight dof)
of_constraints (lines.Terms dof) = Refused (Constraint constraints.Terms dof)
of_constraints lines.NoMemory = NoMemory

abbrev pub of_pattern : PatternFault → Ending
of_pattern pattern.Limit = Refused (Limit Entries)
of_pattern pattern.NoMemory = NoMemory
